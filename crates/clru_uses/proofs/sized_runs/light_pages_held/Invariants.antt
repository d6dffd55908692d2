use Rattle.std.proofs.Common.{◌≡◌, ℕ, Bool, List, nat_eq, nat_lt}
use Rattle.clru_model.specs.SizedRuns.{IsPutIfLight, marks_where}
use Rattle.clru.proofs.CallerLemmas.{Runs}
use Rattle.clru_uses.proofs.sized_runs.light_pages_held.Given as goal

abbrev pub invariant-loop-page : goal.invariant-loop-page
invariant-loop-page g l =
    let weight = λ (page : ℕ). g.W.WeightScale.weight l.fn.cache.scale page tt in
    record {
      next : (goal.iterator-loop-page g).can_next l.page-iterator;
      ends : (goal.iterator-loop-page g).is_finite l.page-iterator;
      runs : (marks : List Bool)
          × Runs nat_eq (IsPutIfLight nat_eq weight (g.W.WeightScale.weight l.fn.cache.scale) l.fn.cache.capacity) l.yielded l.cache.entries marks
          × (l.held.items ≡ marks_where (λ page. nat_lt (weight page) l.fn.cache.capacity) marks l.yielded);
      capacity : l.cache.capacity ≡ l.fn.cache.capacity;
      scale : l.cache.scale ≡ l.fn.cache.scale;
    }
