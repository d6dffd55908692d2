use Rattle.std.proofs.Common.{rules, ◌≡◌, ◌+◌, ◌∷◌, ◌++◌, [], cond, length, take, take_all, length-take, arith, refl, sym, ap, ◌∙◌, subst}
use Rattle.std.proofs.lemmas.List.{take_more}
use Rattle.std.specs.Int.NonZero.{non_zero_usize_get}
use Rattle.clru_model.specs.Requests.{marks, misses}
use Rattle.clru_model.proofs.Bound.{competitive, competitive_from_any_start}
use Rattle.clru_model.proofs.Hits.{HoldsHits_none}
use Rattle.clru.proofs.Replaying.{Replays, Replays-push}
use Rattle.clru.proofs.replays.slice.replay_slice.Goals as goal
use Rattle.clru.proofs.replays.slice.replay_slice.Goals.{then-not-hit, else-not-hit}

pub loop-key-init : goal.loop-key-init
loop-key-init g c =
    let eq = g.K.PartialEq.eq in let k = non_zero_usize_get c.args.capacity in let n = length c.args.keys.now in
    let config = c.with_memory-config.result in
    let capacity : config.capacity ≡ k = rw (c.with_memory-config.ensures, c.with_hasher.ensures, c.new.ensures) refl in
    let reserve : config.reserve ≡ n = rw c.with_memory-config.ensures refl in
    record {
      replays = subst (λ cache. Replays eq k n [] c.in-Ok-with_capacity.marks.items 0 cache) (sym c.in-Ok.ensures.empty)
          (record {
            marks = search rules;
            misses = search rules;
            keeps = HoldsHits_none eq k;
            capacity = capacity;
            places = rw (reserve, capacity) refl;
            covered = omega arith;
            fewer = omega arith;
          });
      few = omega arith;
      marked = search rules;
      same_capacity = search rules;
    }

-- each key has a place that was reserved for it
pub request-hit-requires : goal.request-hit-requires
request-hit-requires g c = record {
  ready = λ needs.
      let r = c.loop-key.invariant.replays in
      let taken = length-take c.loop-key.key-index c.args.keys.now in
      omega (arith, needs.room, needs.taken, r.places, r.capacity, r.fewer, taken, c.loop-key-test.true);
}

pub overflow_add-misses : goal.overflow_add-misses
overflow_add-misses g c =
    omega (arith, c.loop-key.invariant.few, c.loop-key-test.true, c.loop-key.invariant.same_capacity, c.loop-key.marks.small)

pub push_reserved-requires : goal.push_reserved-requires
push_reserved-requires g c = omega (arith, c.loop-key.invariant.marked, c.loop-key.invariant.same_capacity, c.loop-key-test.true)

pub loop-key-preserved : goal.loop-key-preserved
loop-key-preserved g c =
    let eq = g.K.PartialEq.eq in let k = non_zero_usize_get c.args.capacity in
    let i = c.loop-key.key-index in let keys = c.args.keys.now in let key = c.key-item.result in
    let counted : c.if-not-hit.misses ≡ c.loop-key.misses + cond c.request-hit.result 0 1 = elim c.if-not-hit.branch [
      | then-not-hit w ↦ rw (w.misses-is, w.if-not-hit.true) refl
      | else-not-hit w ↦ rw (w.misses-is, w.if-not-hit.false) (omega arith)
    ] in
    let more : take (i + 1) keys ≡ take i keys ++ key ∷ [] =
    take_more keys i key (omega (arith, c.loop-key-test.true)) ∙ ap (λ x. take i keys ++ x ∷ []) (sym c.key-item.is) in
    let e = c.request-hit.ensures in let before = c.loop-key.invariant.replays in let pushed = c.push_reserved.ensures in
    record {
      replays = subst (λ xs. Replays eq k (length keys) xs c.push_reserved.new.self.items c.if-not-hit.misses c.request-hit.new.cache) (sym more)
          (Replays-push eq key c.request-hit.result g.met.K.Eq.laws before e.hit e.put e.held pushed.items counted);
      few = elim c.if-not-hit.branch [
        | then-not-hit w ↦ omega (arith, w.misses-is, c.loop-key.invariant.few)
        | else-not-hit w ↦ omega (arith, w.misses-is, c.loop-key.invariant.few)
      ];
      marked = omega (arith, pushed.len, c.loop-key.invariant.marked);
      same_capacity = omega (arith, pushed.capacity, c.loop-key.invariant.same_capacity);
    }

pub returns-clause-marks : goal.returns-clause-marks
returns-clause-marks g c =
    let i = c.loop-key.key-index in let keys = c.args.keys.now in
    c.loop-key.invariant.replays.marks
    ∙ ap (marks g.K.PartialEq.eq (non_zero_usize_get c.args.capacity)) (take_all i keys (omega (arith, c.loop-key-test.false)))

pub returns-clause-misses : goal.returns-clause-misses
returns-clause-misses g c =
    let i = c.loop-key.key-index in let keys = c.args.keys.now in
    c.loop-key.invariant.replays.misses
    ∙ ap (misses g.K.PartialEq.eq (non_zero_usize_get c.args.capacity)) (take_all i keys (omega (arith, c.loop-key-test.false)))

pub returns-clause-bound : goal.returns-clause-bound
returns-clause-bound g c =
    rw (returns-clause-misses g c) (competitive g.K.PartialEq.eq g.met.K.Eq.laws (non_zero_usize_get c.args.capacity) c.args.keys.now)

pub returns-clause-bound_any_start : goal.returns-clause-bound_any_start
returns-clause-bound_any_start g c =
    rw (returns-clause-misses g c)
    (competitive_from_any_start g.K.PartialEq.eq g.met.K.Eq.laws (non_zero_usize_get c.args.capacity) c.args.keys.now)
