use Rattle.std.proofs.Common.{ℕ, map, take}
use Rattle.std.specs.Int.NonZero.{non_zero_usize_get}
use Rattle.clru_report.specs.PlainRows.{AreNumbersAt}
use Rattle.clru_report.specs.SizedTimed.{ArePlainSizedRows}
use Rattle.clru_report.proofs.timed.sized_aged.sized_rows_of.Given as goal

abbrev pub invariant-loop-index : goal.invariant-loop-index
invariant-loop-index g l = (m s : ℕ → ℕ) → AreNumbersAt m (map non_zero_usize_get l.capacities) l.misses
    → AreNumbersAt s (map non_zero_usize_get l.capacities) l.missed
    → ArePlainSizedRows m s (map non_zero_usize_get (take l.index l.capacities)) l.rows.items
