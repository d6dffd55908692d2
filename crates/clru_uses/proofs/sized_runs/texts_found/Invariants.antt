use Rattle.std.proofs.Common.{◌≡◌, nat_eq}
use Rattle.std.specs.Map.{keys_of}
use Rattle.clru_model.specs.Runs.{IsGetOr}
use Rattle.clru_model.specs.SizedRuns.{IsSizedPut}
use Rattle.clru.proofs.CallerLemmas.{Runs}
use Rattle.clru_uses.proofs.sized_runs.texts_found.Given as goal

abbrev pub invariant-loop-page : goal.invariant-loop-page
invariant-loop-page g l = record {
  next : (goal.iterator-loop-page g).can_next l.page-iterator;
  ends : (goal.iterator-loop-page g).is_finite l.page-iterator;
  runs : Runs nat_eq (IsGetOr (IsSizedPut nat_eq (g.W.WeightScale.weight l.fn.cache.scale) l.fn.cache.capacity) nat_eq) (keys_of l.yielded)
      l.cache.entries l.found.items;
  capacity : l.cache.capacity ≡ l.fn.cache.capacity;
  scale : l.cache.scale ≡ l.fn.cache.scale;
}
