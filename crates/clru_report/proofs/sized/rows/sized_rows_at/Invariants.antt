use Rattle.std.proofs.Common.{map, take}
use Rattle.std.specs.Int.NonZero.{non_zero_usize_get}
use Rattle.clru_report.specs.Passes.{AreRowsOf}
use Rattle.clru_report.proofs.sized.rows.sized_rows_at.Given as goal

abbrev pub invariant-loop-capacity : goal.invariant-loop-capacity
invariant-loop-capacity g l =
    AreRowsOf l.curve l.floors (map non_zero_usize_get (take l.capacity-index l.capacities)) l.rows.items
