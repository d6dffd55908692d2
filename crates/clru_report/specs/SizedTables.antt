-- The text of a table by size. Public clauses cite it.
use Rattle.std.specs.Prelude.{ℕ, ◌-◌, Bool, true, false, List, [], ◌∷◌, ◌++◌, codes, decimal, unwrap_or}
use Rattle.std.specs.Int.NonZero.{non_zero_usize_get}
use Rattle.clru_report.specs.Columns.{columns, header_text, row_text}
use Rattle.clru_report.specs.Faithful.{point}
use Rattle.clru_report.specs.Knees.{is_among}
use Rattle.clru_report.specs.declared.columns.Column.{Column}
use Rattle.clru_report.specs.declared.columns.Line.{Line}
use Rattle.clru_report.specs.declared.faithful.Point.{Point}
use Rattle.clru_report.specs.declared.sized.floors.RowFloor.{RowFloor}
use Rattle.clru_report.specs.declared.sized.rows.SizedRow.{SizedRow}

abbrev pub capacity_of_sized_row : SizedRow → ℕ
capacity_of_sized_row row = non_zero_usize_get row.capacity

abbrev pub point_of_sized_row : SizedRow → Point
point_of_sized_row row = point (capacity_of_sized_row row) row.missed_size

abbrev pub row_floor : ℕ → ℕ → RowFloor
row_floor n s = record { misses = n; missed_size = s }

-- what the columns of a row are taken from, of so many requests of this size in all, behind the point of the row before
abbrev pub line_of_sized_row : ℕ → ℕ → Point → Bool → SizedRow → Line
line_of_sized_row requests size before knee row = record {
  capacity = capacity_of_sized_row row;
  misses = row.misses;
  missed_size = row.missed_size;
  requests = requests;
  size = size;
  least = 0;
  floor_misses = (unwrap_or row.floor (row_floor 0 0)).misses;
  floor_missed_size = (unwrap_or row.floor (row_floor 0 0)).missed_size;
  saved = before.misses - row.missed_size;
  added = capacity_of_sized_row row - before.capacity;
  knee = knee;
}

-- the lines of these rows, of which those at a knee are marked
abbrev pub sized_rows_text : Bool → List Column → ℕ → ℕ → List ℕ → Point → List SizedRow → List ℕ
sized_rows_text json columns requests size knees before [] = []
sized_rows_text json columns requests size knees before (row ∷ rows) =
    row_text json columns (line_of_sized_row requests size before (is_among knees (capacity_of_sized_row row)) row)
    ++ sized_rows_text json columns requests size knees (point_of_sized_row row) rows

-- the table with these rows and knees, in JSON or as CSV; with room for nothing all is missed
abbrev pub sized_table_text : Bool → Bool → ℕ → ℕ → List ℕ → List SizedRow → List ℕ
sized_table_text json floor requests size knees rows = header_text json (columns true false floor)
    ++ sized_rows_text json (columns true false floor) requests size knees (point 0 size) rows

-- numbers with commas between them
abbrev pub three_numbers : ℕ → ℕ → ℕ → List ℕ
three_numbers a b c = decimal a ++ (codes "," ++ (decimal b ++ (codes "," ++ decimal c)))

-- the summary of so many requests for so many keys, of the bytes of input, of the sizes of all requests and of the distinct
-- keys, and of the greatest size
abbrev pub sized_summary_text : ℕ → ℕ → ℕ → ℕ → ℕ → ℕ → List ℕ
sized_summary_text requests distinct bytes size distinct_size greatest =
    codes "requests,distinct_keys,input_bytes,requested_bytes,distinct_bytes,greatest_size\n"
    ++ (three_numbers requests distinct bytes ++ (codes ","
    ++ (three_numbers size distinct_size greatest ++ codes "\n")))
