use Rattle.std.proofs.Common.{append-nil, sym, subst}
use Rattle.clru_text.proofs.Texts.{whole_read}
use Rattle.clru_report.specs.LinePasses.{HasTakenLines}
use Rattle.clru_report.proofs.parts.take_text.Goals as goal

pub read_keys-requires : goal.read_keys-requires
read_keys-requires g c = (
  (c.requires.0, c.requires.1),
  λ before has. subst (λ ls. HasTakenLines ls c.args.pass.now) (sym (append-nil before)) has,
)

pub returns-in-Ok : goal.returns-in-Ok
returns-in-Ok g c before has =
    (whole_read c.args.text.now c.read_keys.new.reader.now _ c.in-Ok.ensures.taken).taken.1 before has
