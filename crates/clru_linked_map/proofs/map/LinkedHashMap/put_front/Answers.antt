use Rattle.std.proofs.Common.{◌≡◌, ◌-◌, ◌<◌, ◌∷◌, length, take, slice_get, sym, ap, ◌∙◌, arith}
use Rattle.std.proofs.lemmas.List.{take_all, length-take}
use Rattle.std.proofs.lemmas.Option.{slice_get_past}
use Rattle.clru_list.specs.PlaceList.{PlaceList}
use Rattle.clru_linked_map.specs.LinkedMap.{LinkedMap, linked_map, pairs_of, with_entries}
use Rattle.clru_linked_map.proofs.Placed.{length-pairs, room_left}
use Rattle.clru_linked_map.proofs.map.LinkedHashMap.put_front.Goals as goal

-- what a map is seen as has the room that its list has
room_seen : {K V S : Type 0} (l : PlaceList (K × V)) (b : S) {seen : LinkedMap K V S} → linked_map (pairs_of l.entries) l.capacity l.places b ≡ seen
    → length l.entries < l.capacity → length seen.entries < seen.capacity
room_seen l b is left = omega (arith, left, length-pairs l.entries, ap (λ m. length m.entries) is, ap (λ m. m.capacity) is)

-- and is full where that is
full_seen : {K V S : Type 0} (l : PlaceList (K × V)) (b : S) {seen : LinkedMap K V S} → linked_map (pairs_of l.entries) l.capacity l.places b ≡ seen
    → length l.entries ≡ l.capacity → length seen.entries ≡ seen.capacity
full_seen l b is full = omega (arith, full, length-pairs l.entries, ap (λ m. length m.entries) is, ap (λ m. m.capacity) is)

pub replace_back-requires-clause-hash : goal.replace_back-requires-clause-hash
replace_back-requires-clause-hash g c = c.requires.hash

pub replace_back-requires-clause-some : goal.replace_back-requires-clause-some
replace_back-requires-clause-some g c =
    let x = c.self.inside.items in let full = full_seen x.list x.hash_builder c.self.view_is (c.is_full.ensures.full.0 c.if-is_full.true) in omega (arith, full, c.requires.some)

pub returns-then-is_full-clause-pair : goal.returns-then-is_full-clause-pair
returns-then-is_full-clause-pair g c =
    let es = c.args.self.now.entries in let x = c.self.inside.items in let full = full_seen x.list x.hash_builder c.self.view_is (c.is_full.ensures.full.0 c.if-is_full.true) in
    c.replace_back.ensures.pair ∙ ap (λ n. slice_get es (n - 1)) full

pub returns-then-is_full-clause-entries : goal.returns-then-is_full-clause-entries
returns-then-is_full-clause-entries g c =
    let es = c.args.self.now.entries in let x = c.self.inside.items in let full = full_seen x.list x.hash_builder c.self.view_is (c.is_full.ensures.full.0 c.if-is_full.true) in
    c.replace_back.ensures.entries ∙ ap (λ n. with_entries c.args.self.now ((c.args.key, c.args.value) ∷ take (n - 1) es)) full

pub returns-then-is_full-clause-held : goal.returns-then-is_full-clause-held
returns-then-is_full-clause-held g c =
    let is = c.self.view_is in let es = c.args.self.now.entries in let new = c.replace_back.ensures.entries in
    omega (
      arith,
      ap (λ m. length m.entries) new,
      length-take (length es - 1) es,
      ap (λ m. m.places) new,
      length-pairs c.self.inside.items.list.entries,
      ap (λ m. length m.entries) is,
      ap (λ m. m.places) is,
      ap (λ m. m.capacity) is,
      c.is_full.ensures.full.0 c.if-is_full.true,
      c.requires.some,
      c.self.invariant.held,
    )

pub push_front-requires-clause-hash : goal.push_front-requires-clause-hash
push_front-requires-clause-hash g c = c.requires.hash

pub push_front-requires-clause-room : goal.push_front-requires-clause-room
push_front-requires-clause-room g c =
    let x = c.self.inside.items in
    let left = room_left x.list _ c.is_full.ensures.full.1 c.if-is_full.false c.is_full.ensures.valid in
    room_seen x.list x.hash_builder c.self.view_is left

pub push_front-requires-clause-ready : goal.push_front-requires-clause-ready
push_front-requires-clause-ready g c =
    let x = c.self.inside.items in
    let left = room_left x.list _ c.is_full.ensures.full.1 c.if-is_full.false c.is_full.ensures.valid in
    c.requires.ready (room_seen x.list x.hash_builder c.self.view_is left)

pub returns-clause-pair : goal.returns-clause-pair
returns-clause-pair g c =
    let x = c.self.inside.items in
    let left = room_left x.list _ c.is_full.ensures.full.1 c.if-is_full.false c.is_full.ensures.valid in
    let old = c.args.self.now in
    let room : length old.entries < old.capacity = room_seen x.list x.hash_builder c.self.view_is left in
    sym (slice_get_past old.entries (old.capacity - 1) (omega (arith, room)))

pub returns-clause-entries : goal.returns-clause-entries
returns-clause-entries g c =
    let x = c.self.inside.items in
    let left = room_left x.list _ c.is_full.ensures.full.1 c.if-is_full.false c.is_full.ensures.valid in
    let old = c.args.self.now in
    let room : length old.entries < old.capacity = room_seen x.list x.hash_builder c.self.view_is left in
    c.push_front.ensures ∙ ap (λ l. with_entries old ((c.args.key, c.args.value) ∷ l))
    (sym (take_all (old.capacity - 1) old.entries (omega (arith, room))))

pub returns-clause-held : goal.returns-clause-held
returns-clause-held g c =
    let x = c.self.inside.items in
    let left = room_left x.list _ c.is_full.ensures.full.1 c.if-is_full.false c.is_full.ensures.valid in
    let ready = c.requires.ready (room_seen x.list x.hash_builder c.self.view_is left) in let new = c.push_front.ensures in
    omega (arith, ap (λ m. length m.entries) new, ap (λ m. m.places) new, ready)
