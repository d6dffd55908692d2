use Rattle.std.proofs.Common.{refl, ap}
use Rattle.clru_linked_map.specs.LinkedMap.{linked_map, pairs_of}
use Rattle.clru_linked_map.proofs.IndexedMoves.{indexed_front}
use Rattle.clru_linked_map.proofs.PlacedPairs.{found_at, no_value, touch_found}
use Rattle.clru_linked_map.proofs.map.LinkedHashMap.touch.Goals as goal

pub returns-in_default-clause-found : goal.returns-in_default-clause-found
returns-in_default-clause-found g c =
    rw (← c.self.view_is, no_value g.Q.Equivalent.equivalent c.args.key (pairs_of c.self.inside.items.list.entries) c.in_default.ensures.absent) refl

pub invariant_of-self : goal.invariant_of-self
invariant_of-self g c =
    let found = c.in-Some.ensures.found in
    rw (c.bring_front.ensures.moved, found.held)
    (indexed_front c.in-Some.place found.item c.self.invariant c.find.ensures.valid.apart found.held)

pub returns-clause-found : goal.returns-clause-found
returns-clause-found g c =
    let distinct = rw (← c.self.view_is) at c.requires.distinct in
    rw (
      ← c.self.view_is,
      (found_at g.Q.Equivalent.equivalent c.args.key g.met.K.Eq.laws (g.met.Q.Equivalent.respects_eq c.args.key) c.in-Some.place
          c.self.inside.items.list.entries distinct c.in-Some.ensures.found).value,
    ) refl

pub returns-clause-entries : goal.returns-clause-entries
returns-clause-entries g c =
    let x = c.self.inside.items in let found = c.in-Some.ensures.found in let eq = g.Q.Equivalent.equivalent in let key = c.args.key in
    let distinct = rw (← c.self.view_is) at c.requires.distinct in
    rw (← c.self.view_is, c.bring_front.ensures.moved, found.held) (ap (λ l. linked_map l x.list.capacity x.list.places x.hash_builder)
    (touch_found eq key (found_at eq key g.met.K.Eq.laws (g.met.Q.Equivalent.respects_eq c.args.key) c.in-Some.place x.list.entries distinct found)))
