use Rattle.std.proofs.Common.{◌≡◌, ◌≤◌, nat_eq, length}
use Rattle.clru_model.specs.SizedRuns.{IsSizedPut}
use Rattle.clru.proofs.CallerLemmas.{CountedRuns}
use Rattle.clru_uses.proofs.sizes.pages_missed.Given as goal

abbrev pub invariant-loop-page : goal.invariant-loop-page
invariant-loop-page g l = record {
  next : (goal.iterator-loop-page g).can_next l.page-iterator;
  ends : (goal.iterator-loop-page g).is_finite l.page-iterator;
  runs : CountedRuns nat_eq (IsSizedPut nat_eq (g.W.WeightScale.weight l.fn.cache.scale) l.fn.cache.capacity) l.yielded l.cache.entries l.misses;
  fewer : l.misses ≤ length l.yielded;
  capacity : l.cache.capacity ≡ l.fn.cache.capacity;
  scale : l.cache.scale ≡ l.fn.cache.scale;
  places : l.fn.cache.places ≤ l.cache.places;
}
