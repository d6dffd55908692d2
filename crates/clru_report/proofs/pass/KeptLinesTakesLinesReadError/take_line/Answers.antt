use Rattle.std.proofs.Common.{[], ◌∷◌, is_some, sym, subst}
use Rattle.std.proofs.lemmas.List.Elements.{filter-append}
use Rattle.std.specs.Int.NonZero.{non_zero_usize_get}
use Rattle.clru_text.specs.Keys.{line_of}
use Rattle.clru_text.specs.Samples.{is_kept, kept_of}
use Rattle.clru_report.specs.LinePasses.{HasTakenFor}
use Rattle.clru_report.proofs.pass.KeptLinesTakesLinesReadError.take_line.Goals as goal

pub take_kept-requires : goal.take_kept-requires
take_kept-requires g c =
    let start = c.requires.0 in
    (is_some start.foresight, is_some start.reuses, kept_of (non_zero_usize_get c.args.self.now.one_in) c.requires.1, c.requires.2.1)

pub returns-clause-taken : goal.returns-clause-taken
returns-clause-taken g c start lines since counted =
    let n = non_zero_usize_get c.args.self.now.one_in in let key = line_of c.args.line.now in
    let least = is_some start.foresight in let floored = is_some start.reuses in (
      since.0,
      subst (λ ls. HasTakenFor least floored ls c.take_kept.new.pass c.take_kept.new.foresight c.take_kept.new.reuses)
          (sym (filter-append (is_kept n) lines (key ∷ [])))
          (c.in_ok-take_kept.ensures least floored (kept_of n lines) since.1),
    )
