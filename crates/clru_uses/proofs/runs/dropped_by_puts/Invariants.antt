use Rattle.std.proofs.Common.{◌≡◌, ◌≤◌, length}
use Rattle.clru_model.specs.Runs.{IsPut}
use Rattle.clru.proofs.CallerLemmas.{DroppedRuns}
use Rattle.clru_uses.proofs.runs.dropped_by_puts.Given as goal

abbrev pub invariant-loop-key : goal.invariant-loop-key
invariant-loop-key g l = record {
  next : (goal.iterator-loop-key g).can_next l.key-iterator;
  ends : (goal.iterator-loop-key g).is_finite l.key-iterator;
  runs : DroppedRuns g.K.PartialEq.eq (IsPut g.K.PartialEq.eq l.fn.cache.capacity) l.fn.cache.capacity l.yielded l.cache.entries l.dropped;
  fewer : l.dropped ≤ length l.yielded;
  capacity : l.cache.capacity ≡ l.fn.cache.capacity;
}
