use Rattle.std.proofs.Common.{◌≡◌, ◌<◌, ◌≤◌, ◌^◌, [], map, sym, ap, ◌∙◌, subst, arith}
use Rattle.std.proofs.lemmas.Bool.{eqb-true}
use Rattle.std.specs.List.{All, sum_by}
use Rattle.clru_least.proofs.SizeFloorOf.{IsSizeFloorOf-by, own_gaps, own_sizes, own_volumes_fit}
use Rattle.clru_least.proofs.Reusing.{empty_of_length}
use Rattle.clru_least.specs.FloorNumbers.{own_step, own_volume}
use Rattle.clru_least.specs.Reuses.{reused, IsFloorPass}
use Rattle.clru_least.proofs.floor_pass.FloorPass.size_floor.Goals as goal

pub returns-then-is_empty-clause-floor : goal.returns-then-is_empty-clause-floor
returns-then-is_empty-clause-floor g c w past is =
    let s = c.self.inside in let eq = g.K.PartialEq.eq in
    let none : s.reuses.items ≡ [] = empty_of_length s.reuses.items (omega (arith, s.reuses.ok.0, eqb-true s.reuses.len 0 (sym c.if-is_empty.ensures))) in
    IsSizeFloorOf-by eq w past (reused s.reuses.items s.requests s.size) c.new.result.items _
    (subst (λ v. IsFloorPass eq w past v) (sym c.self.view_is) is)
    (c.new.ensures.items ∙ ap (λ l. map own_step l) (sym none)) c.from_steps.ensures

pub from_steps-requires-2-clause-gaps : goal.from_steps-requires-2-clause-gaps
from_steps-requires-2-clause-gaps g c =
    let s = c.self.inside in
    let items = c.in_ok-steps.ensures ∙ ap (λ l. map own_step l) c.deref.ensures.value in
    subst (λ l. All (λ t. 1 ≤ t.gap) l) (sym items) (own_gaps (reused s.reuses.items s.requests s.size) c.self.invariant)

pub from_steps-requires-2-clause-fits : goal.from_steps-requires-2-clause-fits
from_steps-requires-2-clause-fits g c =
    let s = c.self.inside in
    let items = c.in_ok-steps.ensures ∙ ap (λ l. map own_step l) c.deref.ensures.value in
    subst (λ l. sum_by own_volume l < 2 ^ 128) (sym items) (own_volumes_fit (reused s.reuses.items s.requests s.size) c.self.invariant)

pub from_steps-requires-2-clause-sizes : goal.from_steps-requires-2-clause-sizes
from_steps-requires-2-clause-sizes g c =
    let s = c.self.inside in
    let items = c.in_ok-steps.ensures ∙ ap (λ l. map own_step l) c.deref.ensures.value in
    subst (λ l. sum_by (λ t. t.size) l ≤ s.size) (sym items) (own_sizes (reused s.reuses.items s.requests s.size) c.self.invariant)

pub returns-clause-floor : goal.returns-clause-floor
returns-clause-floor g c w past is =
    let s = c.self.inside in let eq = g.K.PartialEq.eq in
    IsSizeFloorOf-by eq w past (reused s.reuses.items s.requests s.size) c.in_ok-steps.steps.items _
    (subst (λ v. IsFloorPass eq w past v) (sym c.self.view_is) is)
    (c.in_ok-steps.ensures ∙ ap (λ l. map own_step l) c.deref.ensures.value) c.from_steps-2.ensures
