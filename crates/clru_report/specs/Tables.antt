-- The text of a table. Public clauses cite it.
use Rattle.std.specs.Prelude.{ℕ, ◌-◌, Bool, false, List, [], ◌∷◌, ◌++◌, codes, decimal, unwrap_or}
use Rattle.std.specs.Int.NonZero.{non_zero_usize_get}
use Rattle.clru_report.specs.Columns.{columns, header_text, row_text}
use Rattle.clru_report.specs.Faithful.{point}
use Rattle.clru_report.specs.Knees.{is_among}
use Rattle.clru_report.specs.declared.columns.Column.{Column}
use Rattle.clru_report.specs.declared.columns.Line.{Line}
use Rattle.clru_report.specs.declared.faithful.Point.{Point}
use Rattle.clru_report.specs.declared.rows.Row.{Row}

abbrev pub capacity_of_row : Row → ℕ
capacity_of_row row = non_zero_usize_get row.capacity

abbrev pub point_of_row : Row → Point
point_of_row row = point (capacity_of_row row) row.misses

-- what the columns of a row are taken from, behind the point of the row before. Each key takes one place, so what misses is as much
-- as how many do
abbrev pub line_of_row : ℕ → Point → Bool → Row → Line
line_of_row requests before knee row = record {
  capacity = capacity_of_row row;
  misses = row.misses;
  missed_size = row.misses;
  requests = requests;
  size = requests;
  least = unwrap_or row.least 0;
  floor_misses = unwrap_or row.floor 0;
  floor_missed_size = unwrap_or row.floor 0;
  saved = before.misses - row.misses;
  added = capacity_of_row row - before.capacity;
  knee = knee;
}

-- the lines of these rows, of which those at a knee are marked
abbrev pub rows_text : Bool → List Column → ℕ → List ℕ → Point → List Row → List ℕ
rows_text json columns requests knees before [] = []
rows_text json columns requests knees before (row ∷ rows) =
    row_text json columns (line_of_row requests before (is_among knees (capacity_of_row row)) row)
    ++ rows_text json columns requests knees (point_of_row row) rows

-- the table with these rows and knees, in JSON or as CSV; with room for nothing all requests miss
abbrev pub table_text : Bool → Bool → Bool → ℕ → List ℕ → List Row → List ℕ
table_text json least floor requests knees rows = header_text json (columns false least floor)
    ++ rows_text json (columns false least floor) requests knees (point 0 requests) rows

-- the summary of so many requests for so many keys
abbrev pub summary_text : ℕ → ℕ → ℕ → List ℕ
summary_text requests distinct bytes = codes "requests,distinct_keys,input_bytes\n" ++ (decimal requests ++ (codes ","
    ++ (decimal distinct ++ (codes "," ++ (decimal bytes ++ codes "\n")))))
