use Rattle.std.proofs.Common.{◌≡◌, ◌-◌, ◌∷◌, Some, length, refl, sym, ap, ◌∙◌, arith}
use Rattle.std.specs.Map.{remove_entry}
use Rattle.clru_model.specs.Entries.{fit, size_of, weight_of}
use Rattle.clru_model.proofs.Finding.{held_at, held_is, missed_at, weight_of-held}
use Rattle.clru_model.proofs.Lookups.{lookup-without}
use Rattle.clru_model.proofs.Sublists.{sublist_remove_entry, sublist_itself, length-sublist}
use Rattle.clru_model.proofs.Fitting.{sublist_fit, size_of-fit}
use Rattle.clru_model.proofs.Weights.{weight_of-cons}
use Rattle.clru_linked_map.specs.LinkedMap.{linked_map, with_entries}
use Rattle.clru.proofs.Keeping.{IsCache-from, IsKept-weighted}
use Rattle.clru.proofs.Growth.{GrowsIf-along, grows_if_needed, grows_not, held_needs_none}
use Rattle.clru.proofs.cache.CLruCache.put_with_weight_handing_to.Goals as goal

pub overflow_sub-self : goal.overflow_sub-self
overflow_sub-self g c =
    let w = g.W.WeightScale.weight c.self.inside.scale in let test = g.K.PartialEq.eq c.args.key in let found = c.in-Some.ensures.pair in
    let h = held_at test found in let same = held_is test h found in
    omega (arith, weight_of-held test w h, ap (λ (x : g.row.K.Denot × g.row.V.Denot). w x.0 x.1) same, c.self.invariant.weighs, c.weight.ensures)

pub shrink-requires-clause-weighs : goal.shrink-requires-clause-weighs
shrink-requires-clause-weighs g c =
    let w = g.W.WeightScale.weight c.self.inside.scale in let test = g.K.PartialEq.eq c.args.key in let t = c.in-Some.ensures in
    let h = held_at test t.pair in let same = held_is test h t.pair in
    omega (
      arith,
      weight_of-held test w h,
      ap (λ (x : g.row.K.Denot × g.row.V.Denot). w x.0 x.1) same,
      c.self.invariant.weighs,
      c.weight.ensures,
      ap (λ m. weight_of w m.entries) t.entries,
    )

pub shrink-requires-clause-fits : goal.shrink-requires-clause-fits
shrink-requires-clause-fits g c =
    let w = g.W.WeightScale.weight c.self.inside.scale in let t = c.in-Some.ensures in let h = held_at (g.K.PartialEq.eq c.args.key) t.pair in
    omega (
      arith,
      weight_of-held (g.K.PartialEq.eq c.args.key) w h,
      h.shorter,
      ap (λ m. length m.entries) t.entries,
      ap (λ m. weight_of w m.entries) t.entries,
      ap (λ m. m.capacity) t.entries,
      c.self.invariant.kept.fits,
    )

pub push_front-requires-clause-ready : goal.push_front-requires-clause-ready
push_front-requires-clause-ready g c =
    let t = c.in-Some.ensures in let s = c.shrink.ensures.entries in let h = held_at (g.K.PartialEq.eq c.args.key) t.pair in
    let shorter = length-sublist (sublist_fit (g.W.WeightScale.weight c.self.inside.scale) (c.capacity-capacity.result - 1 - c.weight-weight.result) c.take.new.self.entries) in
    omega (
      arith,
      ap (λ m. length m.entries) s,
      shorter,
      ap (λ m. length m.entries) t.entries,
      h.shorter,
      c.capacity-capacity.ensures.held,
      ap (λ m. m.places) s,
      ap (λ m. m.places) t.entries,
    )

pub push_front-requires-clause-room : goal.push_front-requires-clause-room
push_front-requires-clause-room g c =
    let t = c.in-Some.ensures in let s = c.shrink.ensures.entries in
    let small = size_of-fit (g.W.WeightScale.weight c.self.inside.scale) (c.capacity-capacity.result - 1 - c.weight-weight.result) c.take.new.self.entries in
    omega (
      arith,
      ap (λ m. length m.entries) s,
      small,
      ap (λ m. m.capacity) s,
      ap (λ m. m.capacity) t.entries,
      c.capacity-capacity.ensures.capacity,
      c.self.invariant.some,
    )

pub overflow_add-self : goal.overflow_add-self
overflow_add-self g c =
    let w = g.W.WeightScale.weight c.self.inside.scale in let s = c.shrink.ensures in
    let small = size_of-fit w (c.capacity-capacity.result - 1 - c.weight-weight.result) c.take.new.self.entries in
    omega (arith, s.weighs, ap (λ m. weight_of w m.entries) s.entries, small, c.capacity-capacity.type_inv, c.if-weight-capacity.false)

pub invariant_of-self : goal.invariant_of-self
invariant_of-self g c =
    let eq = g.K.PartialEq.eq in let key = c.args.key in let v = c.args.value in let x = c.self.inside.map in
    let w = g.W.WeightScale.weight c.self.inside.scale in let t = c.in-Some.ensures in let s = c.shrink.ensures in let old = c.self.invariant in
    let room = c.capacity-capacity.result - 1 - c.weight-weight.result in
    let all : room ≡ x.capacity - 1 - w key v = omega (arith, c.capacity-capacity.ensures.capacity, c.weight-weight.ensures) in
    let left = c.push_front.ensures ∙ ap (λ m. with_entries m ((key, v) ∷ m.entries)) s.entries
    ∙ ap (λ m. with_entries m ((key, v) ∷ fit w room m.entries)) t.entries
    ∙ ap (λ r. with_entries x ((key, v) ∷ fit w r (remove_entry (eq key) x.entries))) all in
    IsCache-from w old left
    (IsKept-weighted w key v g.met.K.Eq.laws old.kept (sublist_remove_entry (eq key) x.entries)
    (lookup-without g.met.K.Eq.laws key x.entries old.kept.distinct)
    (omega (arith, c.if-weight-capacity.false, c.capacity-capacity.ensures.capacity, c.weight-weight.ensures)))
    (omega (
      arith,
      s.weighs,
      ap (λ m. weight_of w m.entries) s.entries,
      ap (λ m. weight_of w (fit w room m.entries)) t.entries,
      ap (λ r. weight_of w (fit w r (remove_entry (eq key) x.entries))) all,
      weight_of-cons w (key, v) (fit w (x.capacity - 1 - w key v) (remove_entry (eq key) x.entries)),
      c.weight-weight.ensures,
    ))

pub returns-in-Some-clause-answer : goal.returns-in-Some-clause-answer
returns-in-Some-clause-answer g c =
    let test = g.K.PartialEq.eq c.args.key in let found = c.in-Some.ensures.pair in let h = held_at test found in
    rw (← c.self.view_is) (ap (λ (x : g.row.K.Denot × g.row.V.Denot). Some x.1) (held_is test h found) ∙ sym h.value)

pub returns-in-Some-clause-places : goal.returns-in-Some-clause-places
returns-in-Some-clause-places g c =
    let t = c.in-Some.ensures in let s = c.shrink.ensures.entries in let p = c.push_front.ensures in
    let h = held_at (g.K.PartialEq.eq c.args.key) t.pair in let places = ap (λ m. m.places) p ∙ ap (λ m. m.places) s ∙ ap (λ m. m.places) t.entries in
    let shorter = length-sublist (sublist_fit (g.W.WeightScale.weight c.self.inside.scale) (c.capacity-capacity.result - 1 - c.weight-weight.result) c.take.new.self.entries) in
    rw (← c.self.view_is) (grows_not _ _ _ (held_needs_none _ h.value)
    (ap (λ m. m.capacity) p ∙ ap (λ m. m.capacity) s ∙ ap (λ m. m.capacity) t.entries) refl
    places (omega (
      arith,
      ap (λ m. length m.entries) p,
      ap (λ m. length m.entries) s,
      shorter,
      ap (λ m. length m.entries) t.entries,
      h.shorter,
      c.capacity-capacity.ensures.held,
      places,
    )))

pub make_room-requires-clause-weighs : goal.make_room-requires-clause-weighs
make_room-requires-clause-weighs g c =
    let w = g.W.WeightScale.weight c.self.inside.scale in let t = c.in_default.ensures in let m = missed_at (g.K.PartialEq.eq c.args.key) t.pair in
    c.self.invariant.weighs ∙ sym (ap (λ r. weight_of w r.entries) t.entries ∙ ap (weight_of w) m.removed)

pub make_room-requires-clause-fits : goal.make_room-requires-clause-fits
make_room-requires-clause-fits g c =
    let w = g.W.WeightScale.weight c.self.inside.scale in let t = c.in_default.ensures in let m = missed_at (g.K.PartialEq.eq c.args.key) t.pair in
    let same = t.entries ∙ ap (λ l. with_entries c.self.inside.map l) m.removed in
    omega (arith, ap (λ r. length r.entries) same, ap (λ r. weight_of w r.entries) same, ap (λ r. r.capacity) same, c.self.invariant.kept.fits)

pub invariant_of-self-in_default-make_room : goal.invariant_of-self-in_default-make_room
invariant_of-self-in_default-make_room g c =
    let t = c.in_default.ensures in let m = missed_at (g.K.PartialEq.eq c.args.key) t.pair in let o = c.in_default-make_room.ensures in
    let old = c.self.invariant in let w = g.W.WeightScale.weight c.self.inside.scale in
    let same = t.entries ∙ ap (λ l. with_entries c.self.inside.map l) m.removed in
    let stays = o.stays ∙ ap (λ r. r.entries) same in
    IsCache-from w old (o.same ∙ ap (λ l. linked_map l c.take.new.self.capacity c.make_room.new.map.places c.take.new.self.builder) stays
    ∙ ap (λ r. linked_map c.self.inside.map.entries r.capacity c.make_room.new.map.places r.builder) same) old.kept
    (o.weighs ∙ ap (weight_of w) stays)

pub returns-in_default-make_room-clause-entries : goal.returns-in_default-make_room-clause-entries
returns-in_default-make_room-clause-entries g c =
    let t = c.in_default.ensures in let m = missed_at (g.K.PartialEq.eq c.args.key) t.pair in
    rw (← c.self.view_is) (c.in_default-make_room.ensures.stays ∙ ap (λ r. r.entries) t.entries ∙ m.removed)

pub returns-in_default-make_room-clause-memory : goal.returns-in_default-make_room-clause-memory
returns-in_default-make_room-clause-memory g c =
    let w = g.W.WeightScale.weight c.self.inside.scale in let t = c.in_default.ensures in
    let m = missed_at (g.K.PartialEq.eq c.args.key) t.pair in let o = c.in_default-make_room.ensures in
    let same = t.entries ∙ ap (λ l. with_entries c.self.inside.map l) m.removed in
    rw (← c.self.view_is) (λ _. record {
      absent = m.value;
      room = omega (
        arith,
        o.refused.asked,
        ap (λ r. size_of w r.entries) same,
        c.if-weight-capacity.false,
        c.capacity-capacity.ensures.capacity,
        c.weight-weight.ensures,
      );
      taken = omega (arith, o.refused.taken, ap (λ r. r.places) same, ap (λ r. length r.entries) same);
    })

pub push_front-requires-2-clause-room : goal.push_front-requires-2-clause-room
push_front-requires-2-clause-room g c =
    let w = g.W.WeightScale.weight c.self.inside.scale in let t = c.in_default.ensures in let o = c.in-Ok.ensures in
    let small = size_of-fit w (c.capacity-capacity.result - 1 - c.weight-weight.result) c.take.new.self.entries in
    omega (
      arith,
      ap length o.entries,
      small,
      ap (λ r. r.capacity) o.same,
      ap (λ r. r.capacity) t.entries,
      c.capacity-capacity.ensures.capacity,
      c.self.invariant.some,
    )

pub overflow_add-self-2 : goal.overflow_add-self-2
overflow_add-self-2 g c =
    let w = g.W.WeightScale.weight c.self.inside.scale in let o = c.in-Ok.ensures in
    let small = size_of-fit w (c.capacity-capacity.result - 1 - c.weight-weight.result) c.take.new.self.entries in
    omega (arith, o.weighs, ap (weight_of w) o.entries, small, c.capacity-capacity.type_inv, c.if-weight-capacity.false)

pub invariant_of-self-2 : goal.invariant_of-self-2
invariant_of-self-2 g c =
    let key = c.args.key in let v = c.args.value in let x = c.self.inside.map in
    let w = g.W.WeightScale.weight c.self.inside.scale in let t = c.in_default.ensures in let o = c.in-Ok.ensures in let old = c.self.invariant in
    let m = missed_at (g.K.PartialEq.eq key) t.pair in let same = t.entries ∙ ap (λ l. with_entries x l) m.removed in
    let room = c.capacity-capacity.result - 1 - c.weight-weight.result in let places = c.make_room.new.map.places in
    let all : room ≡ x.capacity - 1 - w key v = omega (arith, c.capacity-capacity.ensures.capacity, c.weight-weight.ensures) in
    let left = c.push_front-2.ensures ∙ ap (λ r. with_entries r ((key, v) ∷ r.entries)) o.same
    ∙ ap (λ l. linked_map ((key, v) ∷ l) c.take.new.self.capacity places c.take.new.self.builder) o.entries
    ∙ ap (λ r. linked_map ((key, v) ∷ fit w room r.entries) r.capacity places r.builder) same
    ∙ ap (λ r. linked_map ((key, v) ∷ fit w r x.entries) x.capacity places x.builder) all in
    IsCache-from w old left
    (IsKept-weighted w key v g.met.K.Eq.laws old.kept (sublist_itself x.entries) m.value
    (omega (arith, c.if-weight-capacity.false, c.capacity-capacity.ensures.capacity, c.weight-weight.ensures)))
    (omega (
      arith,
      o.weighs,
      ap (weight_of w) o.entries,
      ap (λ r. weight_of w (fit w room r.entries)) same,
      ap (λ r. weight_of w (fit w r x.entries)) all,
      weight_of-cons w (key, v) (fit w (x.capacity - 1 - w key v) x.entries),
      c.weight-weight.ensures,
    ))

pub returns-clause-answer : goal.returns-clause-answer
returns-clause-answer g c = rw (← c.self.view_is) (sym (missed_at (g.K.PartialEq.eq c.args.key) c.in_default.ensures.pair).value)

pub returns-clause-places : goal.returns-clause-places
returns-clause-places g c =
    let w = g.W.WeightScale.weight c.self.inside.scale in let t = c.in_default.ensures in
    let m = missed_at (g.K.PartialEq.eq c.args.key) t.pair in let o = c.in-Ok.ensures in let p = c.push_front-2.ensures in
    let same = t.entries ∙ ap (λ l. with_entries c.self.inside.map l) m.removed in
    let sizes = ap (λ r. size_of w r.entries) same in
    let size = c.capacity-capacity.ensures.capacity in let weighs = c.weight-weight.ensures in let light = c.if-weight-capacity.false in
    rw (← c.self.view_is) (grows_if_needed _ _ _ (λ h. omega (arith, h, sizes, light, size, weighs))
    (λ h. omega (arith, h, sizes, light, size, weighs)) m.value c.capacity-capacity.ensures.held
    (GrowsIf-along (sym (ap (λ r. length r.entries) same)) (sym (ap (λ r. r.capacity) same)) (sym (ap (λ r. r.places) same)) (ap (λ r. r.places) p) o.grows)
    (ap (λ r. r.capacity) p ∙ ap (λ r. r.capacity) o.same ∙ ap (λ r. r.capacity) same) refl
    (omega (arith, ap (λ r. length r.entries) p, o.ready, ap (λ r. r.places) p)))

pub push_front-requires-clause-hash : goal.push_front-requires-clause-hash
push_front-requires-clause-hash g c =
    rw (ap (λ m. m.builder) c.shrink.ensures.entries, ap (λ m. m.builder) c.in-Some.ensures.entries) c.hash-hash.ensures

pub push_front-requires-2-clause-hash : goal.push_front-requires-2-clause-hash
push_front-requires-2-clause-hash g c =
    rw (ap (λ m. m.builder) c.in-Ok.ensures.same, ap (λ m. m.builder) c.in_default.ensures.entries) c.hash-hash.ensures

pub push_front-requires-2-clause-ready : goal.push_front-requires-2-clause-ready
push_front-requires-2-clause-ready g c = c.in-Ok.ensures.ready
