use Rattle.std.proofs.Common.{◌≡◌, ℕ, ◌+◌, ◌<◌, ◌≤◌, length, map}
use Rattle.clru_curve.specs.Rising.{number_at, IsRising}
use Rattle.clru_curve.proofs.numbered.last_up_to.Given as goal

abbrev pub invariant-loop-count : goal.invariant-loop-count
invariant-loop-count g l = record {
  some : 0 < l.count;
  within : l.first + l.count ≤ length l.values;
  there : (i high : ℕ) → IsRising 0 (map g.T.NumberedValue.seen l.values) high → number_at (map g.T.NumberedValue.seen l.values) i ≡ l.number → i < length l.values
      → (l.first ≤ i) × (i < l.first + l.count);
}

abbrev pub decreases-loop-count : goal.decreases-loop-count
decreases-loop-count g l = l.count
