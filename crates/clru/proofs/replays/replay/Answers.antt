use Rattle.std.proofs.Common.{rules, sym, ◌∙◌, ◌≡◌, ◌+◌, cond, [], length, arith, refl, ap, subst}
use Rattle.std.proofs.lemmas.List.{length_push, map-id}
use Rattle.std.proofs.lemmas.Iterator.Adapters.{YieldsList-from_vec}
use Rattle.std.proofs.lemmas.Iterator.Consumers.{YieldsList-end, YieldsList-turn}
use Rattle.std.specs.Int.NonZero.{non_zero_usize_get}
use Rattle.clru_model.specs.Requests.{marks, misses}
use Rattle.clru_model.proofs.Bound.{competitive, competitive_from_any_start}
use Rattle.clru_model.proofs.Hits.{HoldsHits_none}
use Rattle.clru.proofs.Replaying.{Replays, Replays-push}
use Rattle.clru.proofs.replays.replay.Goals as goal
use Rattle.clru.proofs.replays.replay.Goals.{then-not-hit, else-not-hit}

pub loop-key-preserved : goal.loop-key-preserved
loop-key-preserved g c =
    let counted : c.if-not-hit.misses ≡ c.loop-key.misses + cond c.request-hit.result 0 1 = elim c.if-not-hit.branch [
      | then-not-hit w ↦ rw (w.misses-is, w.if-not-hit.true) refl
      | else-not-hit w ↦ rw (w.misses-is, w.if-not-hit.false) (omega arith)
    ] in
    let e = c.request-hit.ensures in let before = c.loop-key.invariant.replays in let pushed = c.push_reserved.ensures.items in
    record {
      next = tt;
      ends = tt;
      replays = Replays-push g.K.PartialEq.eq c.in-Some.key c.request-hit.result g.met.K.Eq.laws before e.hit e.put e.held pushed counted;
      few = elim c.if-not-hit.branch [
        | then-not-hit w ↦ omega (arith, w.misses-is, c.loop-key.invariant.few, length_push c.loop-key.yielded c.in-Some.key)
        | else-not-hit w ↦ omega (arith, w.misses-is, c.loop-key.invariant.few, length_push c.loop-key.yielded c.in-Some.key)
      ];
      marked = omega (arith, c.push_reserved.ensures.len, c.loop-key.invariant.marked, length_push c.loop-key.yielded c.in-Some.key);
      same_capacity = omega (arith, c.push_reserved.ensures.capacity, c.loop-key.invariant.same_capacity);
    }

-- each key has a place that was reserved for it
pub request-hit-requires : goal.request-hit-requires
request-hit-requires g c =
    let gives = YieldsList-from_vec {s = c.into_iter-key-iterator.result} c.args.keys.items (search rules) (search rules) in
    let turn = YieldsList-turn gives c.loop-key.yielded c.loop-key.key-iterator c.loop-key.yielded_by c.next.result c.next.new.self
    c.in-Some.key c.in-Some.is c.next.ensures.steps in
    let r = c.loop-key.invariant.replays in
    record { ready = λ needs. omega (arith, needs.room, needs.taken, r.places, r.capacity, r.fewer, turn.0) }

pub overflow_add-misses : goal.overflow_add-misses
overflow_add-misses g c =
    let gives = YieldsList-from_vec {s = c.into_iter-key-iterator.result} c.args.keys.items (search rules) (search rules) in
    let turn = YieldsList-turn gives c.loop-key.yielded c.loop-key.key-iterator c.loop-key.yielded_by c.next.result c.next.new.self
    c.in-Some.key c.in-Some.is c.next.ensures.steps in
    omega (arith, turn.0, c.loop-key.invariant.few, c.loop-key.invariant.same_capacity, c.loop-key.marks.small)

pub push_reserved-requires : goal.push_reserved-requires
push_reserved-requires g c =
    let gives = YieldsList-from_vec {s = c.into_iter-key-iterator.result} c.args.keys.items (search rules) (search rules) in
    let turn = YieldsList-turn gives c.loop-key.yielded c.loop-key.key-iterator c.loop-key.yielded_by c.next.result c.next.new.self
    c.in-Some.key c.in-Some.is c.next.ensures.steps in
    omega (arith, turn.0, c.loop-key.invariant.marked, c.loop-key.invariant.same_capacity)

pub returns-clause-marks : goal.returns-clause-marks
returns-clause-marks g c =
    let eq = g.K.PartialEq.eq in let keys = c.args.keys.items in
    let gives = YieldsList-from_vec {s = c.into_iter-key-iterator.result} keys (search rules) (search rules) in
    let whole = YieldsList-end gives c.loop-key.yielded c.loop-key.key-iterator c.loop-key.yielded_by c.next.result c.next.new.self
    c.in-None.is c.next.ensures.steps in
    let taken : c.loop-key.yielded ≡ keys = sym (map-id c.loop-key.yielded) ∙ whole.0 in
    c.loop-key.invariant.replays.marks ∙ ap (marks eq (non_zero_usize_get c.args.capacity)) taken

pub returns-clause-misses : goal.returns-clause-misses
returns-clause-misses g c =
    let eq = g.K.PartialEq.eq in let keys = c.args.keys.items in
    let gives = YieldsList-from_vec {s = c.into_iter-key-iterator.result} keys (search rules) (search rules) in
    let whole = YieldsList-end gives c.loop-key.yielded c.loop-key.key-iterator c.loop-key.yielded_by c.next.result c.next.new.self
    c.in-None.is c.next.ensures.steps in
    let taken : c.loop-key.yielded ≡ keys = sym (map-id c.loop-key.yielded) ∙ whole.0 in
    c.loop-key.invariant.replays.misses ∙ ap (misses eq (non_zero_usize_get c.args.capacity)) taken

pub returns-clause-bound : goal.returns-clause-bound
returns-clause-bound g c =
    rw (returns-clause-misses g c) (competitive g.K.PartialEq.eq g.met.K.Eq.laws (non_zero_usize_get c.args.capacity) c.args.keys.items)

pub returns-clause-bound_any_start : goal.returns-clause-bound_any_start
returns-clause-bound_any_start g c =
    rw (returns-clause-misses g c)
    (competitive_from_any_start g.K.PartialEq.eq g.met.K.Eq.laws (non_zero_usize_get c.args.capacity) c.args.keys.items)

pub loop-key-init : goal.loop-key-init
loop-key-init g c =
    let eq = g.K.PartialEq.eq in let k = non_zero_usize_get c.args.capacity in
    let len : c.len.result ≡ length c.args.keys.items = omega (arith, c.len.ensures, c.args.keys.ok.0) in
    let config = c.with_memory-config.result in
    let capacity : config.capacity ≡ k = rw (c.with_memory-config.ensures, c.with_hasher.ensures, c.new.ensures) refl in
    let reserve : config.reserve ≡ c.len.result = rw c.with_memory-config.ensures refl in
    record {
      next = tt;
      ends = tt;
      replays = subst (λ cache. Replays eq k (length c.args.keys.items) [] c.in-Ok-with_capacity.marks.items 0 cache) (sym c.in-Ok.ensures.empty)
          (record {
            marks = search rules;
            misses = search rules;
            keeps = HoldsHits_none eq k;
            capacity = capacity;
            places = rw (reserve, capacity, len) refl;
            covered = omega arith;
            fewer = omega arith;
          });
      few = omega arith;
      marked = search rules;
      same_capacity = search rules;
    }
