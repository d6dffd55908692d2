use Rattle.std.proofs.Common.{refl, sym, ap, ◌∙◌}
use Rattle.clru_linked_map.specs.IndexedList.{map_of, with_items}
use Rattle.clru_linked_map.specs.LinkedMap.{pairs_of}
use Rattle.clru_linked_map.proofs.Lending.{ends_alike}
use Rattle.clru_linked_map.proofs.PlacedPairs.{found_item, no_value}
use Rattle.clru_linked_map.proofs.WrittenItems.{found_written}
use Rattle.clru_linked_map.proofs.map.LinkedHashMap.get_mut_near.Goals as goal

pub invariant_of-self-lent : goal.invariant_of-self-lent
invariant_of-self-lent g c = λ w.
    let x = c.self.inside.items in let eq = g.Q.Equivalent.equivalent in let key = c.args.key in let distinct = rw (← c.self.view_is) at c.requires.distinct in
    let found = found_item eq key g.met.K.Eq.laws (g.met.Q.Equivalent.respects_eq key) distinct c.in_ok-place.ensures.found c.in-Some.item.now
    (sym c.in-Some.ensures.value) in
    rw (found.written w) ((found_written x (eq key) w).indexed c.self.invariant)

pub returns-in_err-place : goal.returns-in_err-place
returns-in_err-place g c =
    rw (c.from_residual.ensures, ← c.self.view_is)
    (refl, record { lends = tt; value = sym (no_value g.Q.Equivalent.equivalent c.args.key (pairs_of c.self.inside.items.list.entries) c.in_err-place.ensures.absent) })

pub returns : goal.returns
returns g c =
    let x = c.self.inside.items in let eq = g.Q.Equivalent.equivalent in let key = c.args.key in let distinct = rw (← c.self.view_is) at c.requires.distinct in
    let found = found_item eq key g.met.K.Eq.laws (g.met.Q.Equivalent.respects_eq key) distinct c.in_ok-place.ensures.found c.in-Some.item.now
    (sym c.in-Some.ensures.value) in
    rw (← c.self.view_is) (
      ends_alike (λ w. ap (λ es. map_of (with_items es x)) (found.written w) ∙ (found_written x (eq key) w).map),
      record { lends = tt; value = sym found.value },
    )
