use Rattle.std.proofs.Common.{◌≡◌, ◌+◌, ℕ, Some, IfSome, List, Option, slice_get, sym, ap, subst}
use Rattle.std.specs.Map.{keys_of}
use Rattle.clru_list.specs.Fingers.{IsFinger}
use Rattle.clru_list.proofs.Indices.{after-points}
use Rattle.clru_list.proofs.list.FixedSizeList.place_at.Goals as goal

pub invariant_of-self : goal.invariant_of-self
invariant_of-self g c =
    let es = c.args.self.now.entries in let e = c.next_idx-next.ensures in
    let P : Option ℕ → Type 0 = λ o. IfSome o (λ q. slice_get (keys_of es) (c.args.index + 1) ≡ Some q) in
    let points = subst P (sym e.place) (after-points es c.args.index c.in_ok-place.place e.valid.apart (sym c.in_ok-place.ensures.place)) in
    let Q : List (ℕ × g.row.T.Denot) → Type 0 = λ l. IsFinger (keys_of l) c.pointing.result in
    (c.self.invariant.0, c.set_up.ensures _ (subst Q (sym (ap (λ l. l.entries) c.self.view_is)) (c.pointing.ensures (keys_of es) points)) c.self.invariant.1)
