use Rattle.std.proofs.Common.{ℕ, List, true, false, map, take}
use Rattle.std.specs.List.{All}
use Rattle.std.specs.Prelude.{bytes_eq}
use Rattle.clru_least.specs.FloorNumbers.{IsFloorOf}
use Rattle.clru_report.specs.Report.{AreRows, IsRow}
use Rattle.clru_report.specs.Tables.{capacity_of_row}
use Rattle.clru_report.proofs.rows.rows_with_floor.Given as goal

abbrev pub invariant-loop-row : goal.invariant-loop-row
invariant-loop-row g l = (lines : List (List ℕ)) → IsFloorOf bytes_eq (λ _. 0) lines l.floor → All (IsRow bytes_eq lines false false) l.rows
    → AreRows bytes_eq lines false true (map capacity_of_row (take l.row-index l.rows)) l.found.items
