use Rattle.std.proofs.Common.{◌≡◌, ◌≤◌, nat_eq, length}
use Rattle.clru_model.specs.Runs.{IsGetOr, IsPut}
use Rattle.clru.proofs.CallerLemmas.{CountedRuns}
use Rattle.clru_uses.proofs.runs.pages_fetched.Given as goal

abbrev pub invariant-loop-page : goal.invariant-loop-page
invariant-loop-page l = record {
  next : goal.iterator-loop-page.can_next l.page-iterator;
  ends : goal.iterator-loop-page.is_finite l.page-iterator;
  runs : CountedRuns nat_eq (IsGetOr (IsPut nat_eq l.fn.cache.capacity) nat_eq) l.yielded l.cache.entries l.fetched;
  fewer : l.fetched ≤ length l.yielded;
  capacity : l.cache.capacity ≡ l.fn.cache.capacity;
}
