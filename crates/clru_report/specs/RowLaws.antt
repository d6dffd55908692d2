-- What is true of each row of a table. Public clauses cite it.
use Rattle.std.specs.Prelude.{ℕ, ◌<◌, ◌≤◌, Bool, true, List, IsSomeAnd, bytes_eq}
use Rattle.clru_report.specs.Report.{IsRow}
use Rattle.clru_report.specs.SizedReport.{IsSizedRow}
use Rattle.clru_report.specs.Tables.{capacity_of_row}
use Rattle.clru_report.specs.declared.rows.Row.{Row}
use Rattle.clru_report.specs.declared.sized.rows.SizedRow.{SizedRow}

-- the floor is no more than the misses
abbrev pub FloorIsBelowMisses : Type 0
FloorIsBelowMisses = (lines : List (List ℕ)) (least : Bool) (row : Row) → 0 < capacity_of_row row
    → IsRow bytes_eq lines least true row → IsSomeAnd row.floor (λ floor. floor ≤ row.misses)

-- the least possible misses lie between both
abbrev pub LeastIsBetween : Type 0
LeastIsBetween = (lines : List (List ℕ)) (row : Row) → 0 < capacity_of_row row → IsRow bytes_eq lines true true row
    → IsSomeAnd row.least (λ least. IsSomeAnd row.floor (λ floor. floor ≤ least) × (least ≤ row.misses))

-- and so it is by size of the requests and of their size
abbrev pub SizedFloorsAreBelow : Type 0
SizedFloorsAreBelow = (lines : List (List ℕ)) (row : SizedRow) → IsSizedRow lines true row
    → IsSomeAnd row.floor (λ floor. (floor.misses ≤ row.misses) × (floor.missed_size ≤ row.missed_size))
