use Rattle.std.proofs.Common.{◌≡◌}
use Rattle.clru_model.specs.Runs.{IsPut}
use Rattle.clru.proofs.CallerLemmas.{Runs}
use Rattle.clru_uses.proofs.runs.held_before_puts.Given as goal

abbrev pub invariant-loop-key : goal.invariant-loop-key
invariant-loop-key g l = record {
  next : (goal.iterator-loop-key g).can_next l.key-iterator;
  ends : (goal.iterator-loop-key g).is_finite l.key-iterator;
  runs : Runs g.K.PartialEq.eq (IsPut g.K.PartialEq.eq l.fn.cache.capacity) l.yielded l.cache.entries l.held.items;
  capacity : l.cache.capacity ≡ l.fn.cache.capacity;
}
