use Rattle.std.proofs.Common.{ℕ, List, false, map, take}
use Rattle.std.specs.List.{All}
use Rattle.std.specs.Prelude.{bytes_eq}
use Rattle.clru_curve.specs.Curves.{HasMissesOf}
use Rattle.clru_report.specs.After.{AreRowsBehind}
use Rattle.clru_report.specs.Report.{IsRow}
use Rattle.clru_report.specs.Tables.{capacity_of_row}
use Rattle.clru_report.proofs.after.rows_behind.Given as goal

abbrev pub invariant-loop-row : goal.invariant-loop-row
invariant-loop-row g l = (n : ℕ) (lines : List (List ℕ)) → HasMissesOf bytes_eq (take n lines) l.head
    → All (IsRow bytes_eq lines false false) l.rows
    → AreRowsBehind n lines (map capacity_of_row (take l.row-index l.rows)) l.found.items
