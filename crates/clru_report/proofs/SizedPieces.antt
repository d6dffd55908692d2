-- Of a curve by size the steps alone are looked at: from one up to the next the same size misses.
use Rattle.std.proofs.Common.{◌≡◌, ℕ, ◌<◌, ◌≤◌, nat_le, length, get_or, sym, ap, arith}
use Rattle.std.proofs.lemmas.Bool.{le-leb, lt-leb}
use Rattle.std.proofs.lemmas.List.{get_or_default}
use Rattle.std.proofs.lemmas.List.Sums.{count_by-le-length}
use Rattle.clru_curve.proofs.SizedCurves.{counts_from, counts_to, point_counts}
use Rattle.clru_curve.specs.SizedCurves.{CurveBySize, IsFalling, hits_within, missed_size_within, size_after, step}
use Rattle.clru_report.proofs.Falls.{span}

-- so many steps are up to a capacity
pub hits_are : (curve : CurveBySize) (i y : ℕ) → i ≤ length curve.steps → ((j : ℕ) → j < i → span curve j ≤ y)
    → ((j : ℕ) → i ≤ j → j < length curve.steps → y < span curve j) → i ≡ hits_within y curve.steps
hits_are curve i y inside early late =
    let own = λ (k : ℕ) (d : _) (low : k < length curve.steps). ap (λ s. s.capacity) (get_or_default curve.steps k d (step 0 0) low) in
    point_counts (λ s. nat_le s.capacity y) curve.steps i inside
    (λ k d low. le-leb (get_or curve.steps k d).capacity y (omega (arith, early k low, own k d (omega (arith, low, inside)))))
    (λ k d from low. lt-leb (get_or curve.steps k d).capacity y (omega (arith, late k from low, own k d low)))

-- and what misses there
pub missed_are : (curve : CurveBySize) (i y : ℕ) → i ≤ length curve.steps → ((j : ℕ) → j < i → span curve j ≤ y)
    → ((j : ℕ) → i ≤ j → j < length curve.steps → y < span curve j) → missed_size_within curve y ≡ size_after curve.size curve.steps i
missed_are curve i y inside early late = sym (ap (size_after curve.size curve.steps) (hits_are curve i y inside early late))

-- from one step to another no more misses than after the first, and no less than after the last
module _ (curve : CurveBySize) (falling : IsFalling curve.size curve.steps) (i k y : ℕ) (inside : i ≤ length curve.steps)
    (early : (j : ℕ) → j < i → span curve j ≤ y) (late : (j : ℕ) → k ≤ j → j < length curve.steps → y < span curve j) where
  own : (j : ℕ) (d : _) → j < length curve.steps → (get_or curve.steps j d).capacity ≡ span curve j
  own j d low = ap (λ s. s.capacity) (get_or_default curve.steps j d (step 0 0) low)

  hits_at_least : i ≤ hits_within y curve.steps
  hits_at_least = counts_from (λ s. nat_le s.capacity y) curve.steps i inside
      (λ j d low. le-leb (get_or curve.steps j d).capacity y (omega (arith, early j low, own j d (omega (arith, low, inside)))))

  pub missed_at_most : missed_size_within curve y ≤ size_after curve.size curve.steps i
  missed_at_most = falling i (hits_within y curve.steps) hits_at_least (count_by-le-length (λ s. nat_le s.capacity y) curve.steps)

  pub missed_at_least : k ≤ length curve.steps → size_after curve.size curve.steps k ≤ missed_size_within curve y
  missed_at_least within = falling (hits_within y curve.steps) k
      (counts_to (λ s. nat_le s.capacity y) curve.steps k
      (λ j d from low. lt-leb (get_or curve.steps j d).capacity y (omega (arith, late j from low, own j d low)))) within
