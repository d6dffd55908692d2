use Rattle.std.proofs.Common.{map, take}
use Rattle.std.specs.List.{All}
use Rattle.clru_curve.specs.SizedCurves.{CurveBySize}
use Rattle.clru_report.specs.Passes.{IsRowOf}
use Rattle.clru_report.specs.SizedAfterPasses.{AreRowsLeft}
use Rattle.clru_report.specs.SizedTables.{capacity_of_sized_row}
use Rattle.std.proofs.Common.{Option}
use Rattle.clru_report.specs.declared.sized.floors.Floors.{Floors}
use Rattle.clru_report.proofs.sized.behind.sized_rows_behind.Given as goal

abbrev pub invariant-loop-row : goal.invariant-loop-row
invariant-loop-row g l = (curve : CurveBySize) (floors : Option (Floors g.row.A.Denot)) → All (IsRowOf curve floors) l.rows
    → AreRowsLeft curve l.head (map capacity_of_sized_row (take l.row-index l.rows)) l.found.items
