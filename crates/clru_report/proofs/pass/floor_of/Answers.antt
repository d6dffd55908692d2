use Rattle.std.proofs.Common.{Some, reverse, sym, subst, ◌∙◌}
use Rattle.std.specs.Prelude.{bytes_eq}
use Rattle.clru_text.specs.Keys.{line_of}
use Rattle.clru_report.specs.Passes.{HasFloorPass}
use Rattle.clru_report.proofs.FloorViews.{floor-view}
use Rattle.clru_report.proofs.pass.floor_of.Goals as goal

pub returns-in-None : goal.returns-in-None
returns-in-None g c floored past has = subst (HasFloorPass (λ _. 0) floored past) c.in-None.is has

pub returns-in_ok-floor-in-Some : goal.returns-in_ok-floor-in-Some
returns-in_ok-floor-in-Some g c floored past has =
    let given : HasFloorPass (λ _. 0) floored past (Some c.in-Some.reuses) = subst (HasFloorPass (λ _. 0) floored past) c.in-Some.is has in
    (given.0, λ h. c.in_ok-floor-in-Some.ensures.floor (λ _. 0) past given.1 h ∙ sym (floor-view bytes_eq (λ _. 0) line_of h (reverse past)))
