use Rattle.std.proofs.Common.{◌≡◌, ◌≤◌, Some, nat_eq, length}
use Rattle.clru_model.specs.Runs.{IsPut}
use Rattle.clru.proofs.CallerLemmas.{CountedAgedRuns}
use Rattle.clru_uses.proofs.runs.aged_pages_fetched.Given as goal

abbrev pub invariant-loop-page : goal.invariant-loop-page
invariant-loop-page l = record {
  next : goal.iterator-loop-page.can_next l.page-iterator;
  ends : goal.iterator-loop-page.is_finite l.page-iterator;
  runs : CountedAgedRuns nat_eq (λ v. v) (Some l.fn.age) (IsPut nat_eq l.fn.cache.capacity) l.yielded l.cache.entries l.fetched;
  fewer : l.fetched ≤ length l.yielded;
  capacity : l.cache.capacity ≡ l.fn.cache.capacity;
}
