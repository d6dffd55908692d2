-- A watched cache, one request on.
use Rattle.std.proofs.Common.{◌≡◌, ℕ, ◌+◌, ◌≤◌, Bool, cond, not, nat_eq, Some, List, [], ◌∷◌, ◌++◌, is_some, sym, ap, ◌∙◌}
use Rattle.std.specs.List.{count_by}
use Rattle.std.specs.Map.{lookup}
use Rattle.clru_model.specs.Laws.{PutsHit, GetsOrPutsArePuts}
use Rattle.clru_model.specs.Runs.{IsGetOr, IsPut}
use Rattle.clru_model.proofs.GrowingRuns.{CountedRuns, CountedRuns-push, last_of, run_ends}
use Rattle.clru_uses.specs.Watched.{IsServed}

module _ (hits : PutsHit nat_eq ℕ) (gets : GetsOrPutsArePuts nat_eq ℕ) {k : ℕ} (some : 1 ≤ k) where
  pub served_push : {pages : List ℕ} {es next : List (ℕ × ℕ)} {missed missed' : ℕ} (x : ℕ) (before : Bool) → IsServed k pages es missed
      → before ≡ is_some (lookup (nat_eq x) es) → IsGetOr (IsPut nat_eq k) nat_eq x es next → missed' ≡ missed + cond before 0 1
      → IsServed k (pages ++ x ∷ []) next missed'
  served_push {pages} {es} {next} {missed} {missed'} x before s is made counted =
      let step = IsGetOr (IsPut nat_eq k) nat_eq in
      let last : Some (last_of [] s.later) ≡ Some es = sym (run_ends nat_eq step [] s.later pages s.run) ∙ s.ends in
      let here : last_of [] s.later ≡ es = cc in
      let marked = hits k pages s.later some (gets k pages ([] ∷ s.later) s.run) in
      let old : CountedRuns nat_eq step pages es missed =
      record { later = s.later; run = s.run; ends = here; missed = s.misses ∙ sym (ap (count_by not) marked) } in
      let new : CountedRuns nat_eq step (pages ++ x ∷ []) next missed' = CountedRuns-push nat_eq step x before old is made counted in
      let marked' = hits k (pages ++ x ∷ []) new.later some (gets k (pages ++ x ∷ []) ([] ∷ new.later) new.run) in
      record {
        later = new.later;
        run = new.run;
        ends = run_ends nat_eq step [] new.later (pages ++ x ∷ []) new.run ∙ ap (λ (l : List (ℕ × ℕ)). Some l) new.ends;
        misses = new.missed ∙ ap (count_by not) marked';
      }
