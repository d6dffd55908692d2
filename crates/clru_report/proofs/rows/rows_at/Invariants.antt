use Rattle.std.proofs.Common.{ℕ, map, take}
use Rattle.std.specs.Int.NonZero.{non_zero_usize_get}
use Rattle.clru_report.specs.Passes.{HasMisses}
use Rattle.clru_report.specs.PlainRows.{ArePlainRows}
use Rattle.clru_report.proofs.rows.rows_at.Given as goal

abbrev pub invariant-loop-capacity : goal.invariant-loop-capacity
invariant-loop-capacity g l = (m : ℕ → ℕ) → HasMisses m l.curve
    → ArePlainRows m (map non_zero_usize_get (take l.capacity-index l.capacities)) l.rows.items
