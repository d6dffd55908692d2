-- A sample of the requests: which lines are kept, and what a number of the kept ones says of all. Public clauses cite it.
use Rattle.std.specs.Prelude.{ℕ, ◌-◌, ◌^◌, Option, None}
use Rattle.std.specs.Option.{option_map}
use Rattle.clru_text.specs.Samples.{times}
use Rattle.clru_report.specs.SizedTables.{capacity_of_sized_row, row_floor}
use Rattle.clru_report.specs.Tables.{capacity_of_row}
use Rattle.clru_report.specs.declared.rows.Row.{Row}
use Rattle.clru_report.specs.declared.sized.floors.RowFloor.{RowFloor}
use Rattle.clru_report.specs.declared.sized.rows.SizedRow.{SizedRow}

-- what stands in a row: capacity, misses, least possible misses and floor
abbrev pub numbers_of : Row → ℕ × (ℕ × (Option ℕ × Option ℕ))
numbers_of row = (capacity_of_row row, (row.misses, (row.least, row.floor)))

-- the same as told of all requests, from a row of the kept ones: n times the capacity, the misses and the floor, these at most all;
-- the least of all is not known from a sample
abbrev pub numbers_times : ℕ → ℕ → Row → ℕ × (ℕ × (Option ℕ × Option ℕ))
numbers_times n all row =
    (times n (2 ^ 64 - 1) (capacity_of_row row), (times n all row.misses, (None, option_map (times n all) row.floor)))

-- what stands in a row by size: capacity, misses and their size, and the floors
abbrev pub sized_numbers_of : SizedRow → ℕ × (ℕ × (ℕ × Option RowFloor))
sized_numbers_of row = (capacity_of_sized_row row, (row.misses, (row.missed_size, row.floor)))

-- floors as told of all requests, which have this size together
abbrev pub floor_times : ℕ → ℕ → ℕ → RowFloor → RowFloor
floor_times n all size floor = row_floor (times n all floor.misses) (times n size floor.missed_size)

-- the same as told of them
abbrev pub sized_numbers_times : ℕ → ℕ → ℕ → SizedRow → ℕ × (ℕ × (ℕ × Option RowFloor))
sized_numbers_times n all size row = (
  times n (2 ^ 64 - 1) (capacity_of_sized_row row),
  (times n all row.misses, (times n size row.missed_size, option_map (floor_times n all size) row.floor)),
)
