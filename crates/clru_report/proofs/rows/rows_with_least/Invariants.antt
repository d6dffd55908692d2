use Rattle.std.proofs.Common.{ℕ, List, Bool, true, false, map, take}
use Rattle.std.specs.List.{All}
use Rattle.std.specs.Prelude.{bytes_eq}
use Rattle.clru_report.specs.Passes.{HasForeseen}
use Rattle.clru_report.specs.Report.{AreRows, IsRow}
use Rattle.clru_report.specs.Tables.{capacity_of_row}
use Rattle.clru_report.proofs.rows.rows_with_least.Given as goal

abbrev pub invariant-loop-row : goal.invariant-loop-row
invariant-loop-row g l = (lines : List (List ℕ)) (floored : Bool) → HasForeseen g.row.A.Denot lines l.foresight → All (IsRow bytes_eq lines false floored) l.rows
    → AreRows bytes_eq lines true floored (map capacity_of_row (take l.row-index l.rows)) l.found.items
