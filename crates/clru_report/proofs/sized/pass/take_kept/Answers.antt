use Rattle.std.proofs.Common.{sym, ap, ◌∙◌, subst}
use Rattle.std.specs.Int.NonZero.{non_zero_usize_get}
use Rattle.clru_text.specs.Keys.{line_of}
use Rattle.clru_text.specs.Samples.{is_kept, kept_of}
use Rattle.clru_text.specs.Sizes.{weight_of_line}
use Rattle.clru_text.proofs.ResultLemmas.{on_ok_map}
use Rattle.clru_text.proofs.Samples.{kept_one}
use Rattle.clru_report.specs.SizedLinePasses.{HasTaken}
use Rattle.clru_report.proofs.TakenLines.{taken_more}
use Rattle.clru_report.proofs.sized.pass.take_kept.Goals as goal

pub take-requires-clause-taken : goal.take-requires-clause-taken
take-requires-clause-taken g c =
    let has = c.requires.taken.2 in (has.past, has.taken)

pub note_reuse-requires : goal.note_reuse-requires
note_reuse-requires g c =
    let has = c.requires.taken.2 in
    (weight_of_line, c.requires.taken.0, has.past, c.args.key.now, c.in-Ok.ensures.latest has.past has.taken, has.floored)

pub returns : goal.returns
returns g c floored lines has =
    let key = c.args.key.now in let n = non_zero_usize_get c.args.one_in in
    let more = kept_one n lines (line_of key) (ap (is_kept n) (sym c.deref.ensures.value) ∙ sym c.if-not-is_kept.ensures) in
    let next = c.take.new.self in let reused = c.note_reuse.new.reuses in
    on_ok_map c.note_reuse.result
    (λ noted. subst (λ ls. HasTaken floored ls next reused) (sym more)
    (taken_more floored (kept_of n lines) c.args.pass.now c.args.reuses.now has key next reused c.requires.sized
    (c.in-Ok.ensures.taken has.past has.taken) noted))
    (c.note_reuse.ensures weight_of_line floored has.past key (c.in-Ok.ensures.latest has.past has.taken) has.floored c.requires.weight)
