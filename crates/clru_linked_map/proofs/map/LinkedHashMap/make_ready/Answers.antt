use Rattle.std.proofs.Common.{◌≡◌, ◌<◌, Ok, Err, length, refl, sym, ap, ◌∙◌, arith}
use Rattle.std.specs.Result.{OnOk, OnErr}
use Rattle.clru_linked_map.specs.Growth.{IsRefused}
use Rattle.clru_linked_map.specs.IndexedList.{pairs_in}
use Rattle.clru_linked_map.specs.LinkedMap.{linked_map}
use Rattle.clru_linked_map.proofs.Placed.{length-pairs, room_left}
use Rattle.clru_linked_map.proofs.map.LinkedHashMap.make_ready.Goals as goal
use Rattle.clru_linked_map.proofs.map.LinkedHashMap.make_ready.Goals.{then-is_full-via-then-is_full, then-is_full-via-else-is_full+then-len-places}

pub returns-then-is_full-clause-ready : goal.returns-then-is_full-clause-ready
returns-then-is_full-clause-ready g c =
    let is = c.self.view_is in let capacity = ap (λ m. m.capacity) is in
    let entries = sym (length-pairs c.self.inside.items.list.entries) ∙ ap (λ m. length m.entries) is in
    elim c.then-is_full.branch [
      | then-is_full-via-then-is_full w ↦ λ h. let full = c.is_full.ensures.full.0 w.if-is_full.true in absurd (omega (arith, h, full, entries, capacity))
      | then-is_full-via-else-is_full+then-len-places w ↦ λ _.
          omega (arith, w.if-len-places.true, w.len.ensures.len, w.places.ensures.places, entries, ap (λ m. m.places) is)
    ]

pub returns-then-is_full-clause-grows : goal.returns-then-is_full-clause-grows
returns-then-is_full-clause-grows g c =
    let is = c.self.view_is in let capacity = ap (λ m. m.capacity) is in
    let entries = sym (length-pairs c.self.inside.items.list.entries) ∙ ap (λ m. length m.entries) is in
    let places = ap (λ m. m.places) is in record {
      never_falls = omega arith;
      unwanted = λ _. refl;
      free = λ _. refl;
      bounded = λ h e. elim c.then-is_full.branch [
        | then-is_full-via-then-is_full w ↦ let full = c.is_full.ensures.full.0 w.if-is_full.true in absurd (omega (arith, h, full, entries, capacity))
        | then-is_full-via-else-is_full+then-len-places w ↦
            absurd (omega (arith, e, w.if-len-places.true, w.len.ensures.len, w.places.ensures.places, entries, places))
      ];
    }

pub returns-then-is_full-clause-held : goal.returns-then-is_full-clause-held
returns-then-is_full-clause-held g c =
    let is = c.self.view_is in
    omega (arith, c.self.invariant.held, length-pairs c.self.inside.items.list.entries, ap (λ m. length m.entries) is, ap (λ m. m.places) is)

pub grow-requires-clause-below : goal.grow-requires-clause-below
grow-requires-clause-below g c =
    let room = room_left c.self.inside.items.list _ c.is_full.ensures.full.1 c.if-is_full.false c.is_full.ensures.valid in
    omega (arith, room, length-pairs c.self.inside.items.list.entries)

pub grow-requires-clause-taken : goal.grow-requires-clause-taken
grow-requires-clause-taken g c =
    omega (arith, length-pairs c.self.inside.items.list.entries, c.if-len-places.false, c.len.ensures.len, c.places.ensures.places)

pub grow-requires-clause-indexed : goal.grow-requires-clause-indexed
grow-requires-clause-indexed g c = c.self.invariant

pub invariant_of-self : goal.invariant_of-self
invariant_of-self g c = c.grow.ensures.indexed

pub returns-clause-ready : goal.returns-clause-ready
returns-clause-ready g c =
    let new = c.grow.new.self in
    (elim c.grow.result as (λ r. OnOk r (length (pairs_in new) < new.list.places)
    → OnOk r (length (pairs_in new) < new.list.capacity → length (pairs_in new) < new.list.places)) [
      | Ok x ↦ λ h _. h
      | Err x ↦ λ h. h
    ]) c.grow.ensures.ready

pub returns-clause-grows : goal.returns-clause-grows
returns-clause-grows g c =
    let is = c.self.view_is in let capacity = ap (λ m. m.capacity) is in
    let entries = sym (length-pairs c.self.inside.items.list.entries) ∙ ap (λ m. length m.entries) is in
    let places = ap (λ m. m.places) is in
    let room = room_left c.self.inside.items.list _ c.is_full.ensures.full.1 c.if-is_full.false c.is_full.ensures.valid in
    let wanted : length c.args.self.now.entries < c.args.self.now.capacity =
    omega (arith, room, entries, capacity) in
    let taken : c.args.self.now.places ≡ length c.args.self.now.entries =
    omega (arith, c.if-len-places.false, c.len.ensures.len, c.places.ensures.places, c.self.invariant.held, entries, places) in
    record {
      never_falls = omega (arith, c.grow.ensures.never_falls, places);
      unwanted = λ no. absurd (no wanted);
      free = λ h. absurd (omega (arith, h, taken));
      bounded = λ _ _. omega (arith, c.grow.ensures.bounded, capacity);
    }

pub returns-clause-refused : goal.returns-clause-refused
returns-clause-refused g c =
    let is = c.self.view_is in let capacity = ap (λ m. m.capacity) is in
    let entries = sym (length-pairs c.self.inside.items.list.entries) ∙ ap (λ m. length m.entries) is in
    let places = ap (λ m. m.places) is in
    let room = room_left c.self.inside.items.list _ c.is_full.ensures.full.1 c.if-is_full.false c.is_full.ensures.valid in
    let wanted : length c.args.self.now.entries < c.args.self.now.capacity =
    omega (arith, room, entries, capacity) in
    let taken : c.args.self.now.places ≡ length c.args.self.now.entries =
    omega (arith, c.if-len-places.false, c.len.ensures.len, c.places.ensures.places, c.self.invariant.held, entries, places) in
    let old = c.args.self.now in
    (elim c.grow.result as (λ r. OnErr r (c.grow.new.self.list.places ≡ c.self.inside.items.list.places)
    → OnErr r (IsRefused (length old.entries < old.capacity) (length old.entries) old.places c.grow.new.self.list.places)) [
      | Ok x ↦ λ h. h
      | Err x ↦ λ h. record { asked = wanted; taken = taken; stays = h ∙ places }
    ]) c.grow.ensures.refused

pub returns-clause-held : goal.returns-clause-held
returns-clause-held g c =
    omega (arith, c.grow.ensures.indexed.held, length-pairs c.grow.new.self.list.entries)

pub returns-clause-same : goal.returns-clause-same
returns-clause-same g c =
    let k = c.grow.ensures.keeps in let is = c.self.view_is in
    let pairs = k.pairs ∙ ap (λ m. m.entries) is in let capacity = k.capacity ∙ ap (λ m. m.capacity) is in
    let builder = k.builder ∙ ap (λ m. m.builder) is in
    λ j. linked_map (pairs j) (capacity j) c.grow.new.self.list.places (builder j)
