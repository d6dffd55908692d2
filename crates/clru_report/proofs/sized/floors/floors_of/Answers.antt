use Rattle.std.proofs.Common.{Some, reverse, sym, subst, ◌∙◌}
use Rattle.std.specs.Prelude.{bytes_eq}
use Rattle.clru_text.specs.Keys.{line_of}
use Rattle.clru_text.specs.Sizes.{weight_of_line}
use Rattle.clru_report.specs.Passes.{HasFloorPass, weight_of_key}
use Rattle.clru_report.proofs.FloorViews.{floor-view, size_floor-view}
use Rattle.clru_report.proofs.sized.floors.floors_of.Goals as goal

pub returns-in-None : goal.returns-in-None
returns-in-None g c floored past has = subst (HasFloorPass weight_of_line floored past) c.in-None.is has

pub returns-in_ok-missed_size-in-Some : goal.returns-in_ok-missed_size-in-Some
returns-in_ok-missed_size-in-Some g c floored past has =
    let given : HasFloorPass weight_of_line floored past (Some c.in-Some.reuses) =
    subst (HasFloorPass weight_of_line floored past) c.in-Some.is has in (
      given.0,
      λ h. c.in_ok-misses-in-Some.ensures.floor weight_of_key past given.1 h
          ∙ sym (floor-view bytes_eq weight_of_line line_of h (reverse past)),
      λ h. c.in_ok-missed_size-in-Some.ensures.floor weight_of_key past given.1 h
          ∙ sym (size_floor-view bytes_eq weight_of_line line_of h (reverse past)),
    )
