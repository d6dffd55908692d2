use Rattle.std.proofs.Common.{◌≡◌, Some, true, false, refl, sym, ap, ◌∙◌, arith}
use Rattle.std.specs.Map.Calls.{CalledAtPair, TakesPair}
use Rattle.std.proofs.lemmas.Bool.{eq-eqb}
use Rattle.clru_model.specs.Entries.{weight_of}
use Rattle.clru_list.specs.PlaceList.{place_list, item_at, with_at}
use Rattle.clru_linked_map.specs.LinkedMap.{pairs_of}
use Rattle.clru_linked_map.proofs.Placed.{item_at-with_at}
use Rattle.clru_linked_map.proofs.IndexedMoves.{indexed_written}
use Rattle.clru_linked_map.proofs.Same.{same_refl, same_trans}
use Rattle.clru_linked_map.proofs.Sifting.{sifting_starts, sifting_ends, sifting_takes, sifting_goes_on, sifting_fewer, sifting_some, weight_of-taken, weight_of-written}
use Rattle.clru_linked_map.proofs.indexed_list.IndexedList.sift.Goals as goal

pub loop-next-init : goal.loop-next-init
loop-next-init g c = record {
  sifting = sifting_starts (CalledAtPair g.F.FnMut) (TakesPair g.F.FnMut) c.args.keep c.args.self.now.list _ c.front_idx-next.ensures.place c.front_idx-next.ensures.valid c.requires.callable;
  weighs = c.requires.weighs;
  indexed = c.requires.indexed;
  same = same_refl;
}

pub keep-kept-requires : goal.keep-kept-requires
keep-kept-requires g c =
    sifting_takes (CalledAtPair g.F.FnMut) (TakesPair g.F.FnMut) c.args.keep c.args.self.now.list c.loop-next.keep c.loop-next.self.list c.loop-next.next c.loop-next.invariant.sifting
    c.in-Some.place c.in-Some.is c.in-Some-get_mut.item.now (sym c.in-Some-get_mut.ensures.value) _ _ refl refl

pub unreachable-requires : goal.unreachable-requires
unreachable-requires g c =
    sifting_some (CalledAtPair g.F.FnMut) (TakesPair g.F.FnMut) c.args.keep c.args.self.now.list c.loop-next.keep c.loop-next.self.list c.loop-next.next c.loop-next.invariant.sifting
    c.in-Some.place c.in-Some.is (sym c.in-None.ensures.value)

pub loop-next-smaller-then-kept : goal.loop-next-smaller-then-kept
loop-next-smaller-then-kept g c =
    let l = c.loop-next.self.list in let p = c.in-Some.place in
    sifting_fewer (CalledAtPair g.F.FnMut) (TakesPair g.F.FnMut) c.args.keep c.args.self.now.list c.loop-next.keep l c.loop-next.next c.loop-next.invariant.sifting
    p c.in-Some.is c.in-Some-get_mut.item.now (sym c.in-Some-get_mut.ensures.value)
    c.next_idx-next.ensures.valid true c.keep-kept.new.arg3 _ _ refl refl _ c.next_idx-next.ensures.place

pub loop-next-preserved-then-kept : goal.loop-next-preserved-then-kept
loop-next-preserved-then-kept g c =
    let l = c.loop-next.self.list in let p = c.in-Some.place in let i = c.in-Some-get_mut.item.now in let inv = c.loop-next.invariant in
    let held : item_at p l.entries ≡ Some i = sym c.in-Some-get_mut.ensures.value in
    record {
      sifting = sifting_goes_on (CalledAtPair g.F.FnMut) (TakesPair g.F.FnMut) c.args.keep c.args.self.now.list c.loop-next.keep l c.loop-next.next inv.sifting
          p c.in-Some.is i held
          c.next_idx-next.ensures.valid true c.keep-kept.new.arg3 _ _ refl refl _ c.next_idx-next.ensures.place _
          (record { key = _; value = _; shows = (refl, refl); left = _; called = c.if-kept.ensures; leaves = refl });
      weighs = inv.weighs ∙ sym (weight_of-written (g.W.WeightScale.weight c.args.scale.now) p c.keep-kept.new.arg3 l.entries i held
          (c.requires.steady _ _ _ _ _ _ (record { key = _; value = _; shows = (refl, refl); left = _; called = c.if-kept.ensures; leaves = refl })));
      indexed = indexed_written p i _ inv.indexed held;
      same = record { capacity = inv.same.capacity; places = inv.same.places; builder = inv.same.builder; index = inv.same.index };
    }

pub take_at-key-requires-clause-place : goal.take_at-key-requires-clause-place
take_at-key-requires-clause-place g c =
    let p = c.in-Some.place in let i = c.in-Some-get_mut.item.now in
    let w : g.row.K.Denot × g.row.V.Denot = (i.0, c.keep-kept.new.arg3) in
    (w, item_at-with_at p p w c.loop-next.self.list.entries i (sym c.in-Some-get_mut.ensures.value) ∙ rw (eq-eqb p p refl) refl)

pub take_at-key-requires-clause-indexed : goal.take_at-key-requires-clause-indexed
take_at-key-requires-clause-indexed g c = indexed_written c.in-Some.place c.in-Some-get_mut.item.now _ c.loop-next.invariant.indexed (sym c.in-Some-get_mut.ensures.value)

pub overflow_sub-total_weight : goal.overflow_sub-total_weight
overflow_sub-total_weight g c =
    let w = g.W.WeightScale.weight c.args.scale.now in let at_p = c.take_at-key.ensures.pair in
    let l = c.loop-next.self.list in let p = c.in-Some.place in let i = c.in-Some-get_mut.item.now in
    let held : item_at p l.entries ≡ Some i = sym c.in-Some-get_mut.ensures.value in
    omega (
      arith,
      weight_of-taken w p (with_at p (i.0, c.keep-kept.new.arg3) l.entries) _ at_p,
      weight_of-written w p c.keep-kept.new.arg3 l.entries i held
          (c.requires.steady _ _ _ _ _ _ (record { key = _; value = _; shows = (refl, refl); left = _; called = c.if-kept.ensures; leaves = refl })),
      c.loop-next.invariant.weighs,
      c.weight.ensures,
    )

pub loop-next-smaller : goal.loop-next-smaller
loop-next-smaller g c =
    let l = c.loop-next.self.list in let p = c.in-Some.place in let t = c.take_at-key.ensures in
    sifting_fewer (CalledAtPair g.F.FnMut) (TakesPair g.F.FnMut) c.args.keep c.args.self.now.list c.loop-next.keep l c.loop-next.next c.loop-next.invariant.sifting
    p c.in-Some.is c.in-Some-get_mut.item.now (sym c.in-Some-get_mut.ensures.value)
    c.next_idx-next.ensures.valid false c.keep-kept.new.arg3 _ _ refl
    (λ k. place_list (t.entries k) (t.same.capacity k) (t.same.places k)) _ c.next_idx-next.ensures.place

pub loop-next-preserved : goal.loop-next-preserved
loop-next-preserved g c =
    let l = c.loop-next.self.list in let p = c.in-Some.place in let i = c.in-Some-get_mut.item.now in let inv = c.loop-next.invariant in let t = c.take_at-key.ensures in
    let held : item_at p l.entries ≡ Some i = sym c.in-Some-get_mut.ensures.value in
    let w = g.W.WeightScale.weight c.args.scale.now in let at_p = t.pair in
    let es = with_at p (i.0, c.keep-kept.new.arg3) l.entries in
    let steady = c.requires.steady _ _ _ _ _ _ (record { key = _; value = _; shows = (refl, refl); left = _; called = c.if-kept.ensures; leaves = refl }) in
    record {
      sifting = sifting_goes_on (CalledAtPair g.F.FnMut) (TakesPair g.F.FnMut) c.args.keep c.args.self.now.list c.loop-next.keep l c.loop-next.next inv.sifting
          p c.in-Some.is i held
          c.next_idx-next.ensures.valid false c.keep-kept.new.arg3 _ _ refl
          (λ k. place_list (t.entries k) (t.same.capacity k) (t.same.places k)) _ c.next_idx-next.ensures.place _
          (record { key = _; value = _; shows = (refl, refl); left = _; called = c.if-kept.ensures; leaves = refl });
      weighs = omega (
        arith,
        weight_of-taken w p es _ at_p,
        weight_of-written w p c.keep-kept.new.arg3 l.entries i held steady,
        inv.weighs,
        c.weight.ensures,
        ap (λ l. weight_of w (pairs_of l)) t.entries,
      );
      indexed = t.indexed;
      same = same_trans inv.same (record { capacity = t.same.capacity; places = t.same.places; builder = t.same.builder; index = t.same.index });
    }

pub returns-clause-kept : goal.returns-clause-kept
returns-clause-kept g c =
    sifting_ends (CalledAtPair g.F.FnMut) (TakesPair g.F.FnMut) c.args.keep c.args.self.now.list c.loop-next.keep c.loop-next.self.list c.loop-next.next
    c.loop-next.invariant.sifting c.in_default.not-Some
