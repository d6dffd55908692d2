use Rattle.std.proofs.Common.{[], map, ap, subst, ◌∙◌}
use Rattle.std.specs.Int.NonZero.{non_zero_usize_get}
use Rattle.clru_curve.specs.SizedAgedPasses.{IsSizedAgedPass}
use Rattle.clru_text.specs.Keys.{same_line}
use Rattle.clru_report.proofs.timed.aged.aged_pass_of.Goals as goal

pub returns-in-Ok : goal.returns-in-Ok
returns-in-Ok g c w =
    subst (λ ks. IsSizedAgedPass same_line w ks c.args.limits.max_idle c.args.age [] c.in-Ok.pass)
    (c.deref-2.ensures.value ∙ c.in_ok-numbers.ensures ∙ ap (map non_zero_usize_get) c.deref.ensures.value ∙ c.in_ok-capacities.ensures)
    (c.in-Ok.ensures w)
