use Rattle.std.proofs.Common.{[], ◌++◌, refl, sym, ap, ◌∙◌, subst}
use Rattle.std.specs.Int.NonZero.{non_zero_usize_get}
use Rattle.clru_text.specs.Keys.{line_of}
use Rattle.clru_text.specs.Samples.{is_kept}
use Rattle.clru_text.proofs.ResultLemmas.{on_ok_map}
use Rattle.clru_text.proofs.Samples.{kept_one}
use Rattle.clru_report.specs.LinePasses.{HasTakenFor}
use Rattle.clru_report.proofs.TakenLines.{one_taken}
use Rattle.clru_report.proofs.pass.take_kept.Goals as goal

pub take-requires : goal.take-requires
take-requires g c =
    let has = c.requires.3 in (has.past, has.taken)

pub foresee-requires : goal.foresee-requires
foresee-requires g c =
    let has = c.requires.3 in (c.requires.0, has.past, c.args.key.now, c.in-Ok.ensures.latest has.past has.taken, has.foreseen)

pub note_reuse-requires : goal.note_reuse-requires
note_reuse-requires g c =
    let has = c.requires.3 in (λ _. 0, c.requires.1, has.past, c.args.key.now, c.in-Ok.ensures.latest has.past has.taken, has.floored)

pub returns : goal.returns
returns g c least floored before has =
    let key = c.args.key.now in let n = non_zero_usize_get c.args.one_in in
    let kept = kept_one n [] (line_of key) (ap (is_kept n) (sym c.deref.ensures.value) ∙ sym c.if-not-is_kept.ensures) in
    let next = c.take.new.self in let later = c.foresee.new.foresight in let reused = c.note_reuse.new.reuses in
    let latest = c.in-Ok.ensures.latest has.past has.taken in
    on_ok_map c.note_reuse.result
    (λ noted. subst (λ ls. HasTakenFor least floored (before ++ ls) next later reused) (sym kept)
    (one_taken least floored before c.args.pass.now c.args.foresight.now c.args.reuses.now has key next later reused
    (c.in-Ok.ensures.taken has.past has.taken) (c.in_ok-foresee.ensures least has.past key latest has.foreseen) noted))
    (c.note_reuse.ensures (λ _. 0) floored has.past key latest has.floored refl)
