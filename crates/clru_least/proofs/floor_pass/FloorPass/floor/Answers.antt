use Rattle.std.proofs.Common.{◌≡◌, ◌<◌, ◌^◌, [], map, sym, ap, ◌∙◌, subst, arith}
use Rattle.std.proofs.lemmas.Bool.{eqb-true}
use Rattle.std.specs.List.{sum_by}
use Rattle.clru_least.proofs.FloorOf.{IsFloorOf-by}
use Rattle.clru_least.proofs.Reusing.{empty_of_length, volumes_fit}
use Rattle.clru_least.specs.Reuses.{reused, volume_of, IsFloorPass}
use Rattle.clru_least.proofs.floor_pass.FloorPass.floor.Goals as goal

pub returns-then-is_empty-clause-floor : goal.returns-then-is_empty-clause-floor
returns-then-is_empty-clause-floor g c w past is =
    let s = c.self.inside in let eq = g.K.PartialEq.eq in
    let none : s.reuses.items ≡ [] = empty_of_length s.reuses.items (omega (arith, s.reuses.ok.0, eqb-true s.reuses.len 0 (sym c.if-is_empty.ensures))) in
    IsFloorOf-by eq w past (reused s.reuses.items s.requests s.size) c.new.result.items _
    (subst (λ v. IsFloorPass eq w past v) (sym c.self.view_is) is)
    (c.new.ensures.items ∙ ap (λ l. map volume_of l) (sym none)) c.from_volumes.ensures

pub from_volumes-requires-2-clause-fits : goal.from_volumes-requires-2-clause-fits
from_volumes-requires-2-clause-fits g c =
    let s = c.self.inside in
    let items = c.in_ok-volumes.ensures ∙ ap (λ l. map volume_of l) c.deref.ensures.value in
    subst (λ l. sum_by (λ v. v) l < 2 ^ 128) (sym items) (volumes_fit (reused s.reuses.items s.requests s.size) c.self.invariant)

pub returns-clause-floor : goal.returns-clause-floor
returns-clause-floor g c w past is =
    let s = c.self.inside in let eq = g.K.PartialEq.eq in
    IsFloorOf-by eq w past (reused s.reuses.items s.requests s.size) c.in_ok-volumes.volumes.items _
    (subst (λ v. IsFloorPass eq w past v) (sym c.self.view_is) is)
    (c.in_ok-volumes.ensures ∙ ap (λ l. map volume_of l) c.deref.ensures.value) c.from_volumes-2.ensures
