use Rattle.std.proofs.Common.{◌≡◌, ℕ, ◌≤◌, [], false, length}
use Rattle.clru_curve.specs.Curves.{misses_at}
use Rattle.clru_report.specs.Ratios.{is_enough}
use Rattle.clru_report.proofs.ratio.least_by_keys.Given as goal

-- none of the capacities so far is enough
abbrev pub invariant-loop-index : goal.invariant-loop-index
invariant-loop-index g l = (l.chosen.items ≡ []) × ((k : ℕ) → 1 ≤ k → k ≤ l.index
    → is_enough l.ratio.number l.whole (misses_at l.curve (length l.curve)) (misses_at l.curve k) ≡ false)
