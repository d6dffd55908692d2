-- What is written for lines that begin with sizes, where capacities are sums of sizes. The numbers are those of the definitions
-- of requests by size: no cache is in sight.
use Rattle.std.specs.Prelude.{◌≡◌, ℕ, ◌-◌, ◌/◌, ◌^◌, ◌≤◌, nat_le, Bool, true, false, List, length, map, min, reverse, None, Some, bytes_eq}
use Rattle.std.specs.Int.NonZero.{non_zero_usize_get}
use Rattle.std.specs.List.{All, filter}
use Rattle.clru_model.specs.Floor.{floor_misses, floor_missed_size}
use Rattle.clru_model.specs.Requests.{distinct}
use Rattle.clru_model.specs.Sizes.{total, misses_by_size, missed_size as missed_size_of}
use Rattle.clru_text.specs.Pictures.{HasTable}
use Rattle.clru_text.specs.Samples.{kept_of, times}
use Rattle.clru_text.specs.Sizes.{HaveSizes, weight_of_line}
use Rattle.clru_text.specs.declared.options.Form.{Form}
use Rattle.clru_text.specs.declared.options.Form.TheVariants.{Table, Json, Picture, Summary}
use Rattle.clru_text.specs.declared.options.Options.{Options}
use Rattle.clru_text.specs.declared.options.Sample.{Sample}
use Rattle.clru_text.specs.declared.options.Sample.TheVariants.{Whole, OneIn, Taken}
use Rattle.clru_report.specs.Capacities.{sized_capacities_of, usual_from}
use Rattle.clru_report.specs.Faithful.{IsFaithful}
use Rattle.clru_report.specs.Knees.{knees}
use Rattle.clru_report.specs.Refusals.{fault_from, fault_of}
use Rattle.clru_report.specs.Samples.{sized_numbers_of, sized_numbers_times}
use Rattle.clru_report.specs.Sizes.{greatest_size, size_of_lines}
use Rattle.clru_report.specs.SizedTables.{capacity_of_sized_row, row_floor, sized_summary_text, sized_table_text}
use Rattle.clru_report.specs.declared.sized.rows.SizedRow.{SizedRow}

-- the size of the distinct lines together
abbrev pub distinct_size : List (List ℕ) → ℕ
distinct_size lines = total bytes_eq weight_of_line (reverse lines)

module _ (lines : List (List ℕ)) where
  -- the floors of what every schedule misses, also one that lets keys pass by, stand in a row where they are asked for
  abbrev pub HasFloors : Bool → SizedRow → Type 0
  HasFloors true row = row.floor ≡ Some (row_floor (floor_misses bytes_eq weight_of_line (capacity_of_sized_row row) lines)
      (floor_missed_size bytes_eq weight_of_line (capacity_of_sized_row row) lines))
  HasFloors false row = row.floor ≡ None

  -- a row of the requests: no line is greater than its capacity
  pub record IsSizedRow (floor : Bool) (row : SizedRow) : Type 0 where
    pub misses : row.misses ≡ misses_by_size bytes_eq weight_of_line (capacity_of_sized_row row) lines
    pub missed_size : row.missed_size ≡ missed_size_of bytes_eq weight_of_line (capacity_of_sized_row row) lines
    pub floors : HasFloors floor row
    pub holds_each : greatest_size lines ≤ capacity_of_sized_row row

  -- one such row for each capacity, in order
  abbrev pub AreSizedRows : Bool → List ℕ → List SizedRow → Type 0
  AreSizedRows floor capacities rows = (map capacity_of_sized_row rows ≡ capacities) × All (IsSizedRow floor) rows

-- what misses at a capacity, in bytes
abbrev pub missed_of : List (List ℕ) → ℕ → ℕ
missed_of lines c = missed_size_of bytes_eq weight_of_line c lines

-- the usual table of these lines: between its rows the missed bytes are near the straight line, by a fiftieth of the whole
abbrev pub IsSizedUsualTable : ℕ → List (List ℕ) → List ℕ → Type 0
IsSizedUsualTable whole lines table =
    IsFaithful (missed_of lines) whole (usual_from (greatest_size lines) (distinct_size lines)) table

-- the capacities that are asked for, where so many requests of this size together are the whole
abbrev pub sized_capacities_asked : {A : Type 0} → Options A → ℕ → ℕ → List (List ℕ) → List ℕ → List ℕ
sized_capacities_asked options requests size lines table = sized_capacities_of options.capacities
    (λ c. misses_by_size bytes_eq weight_of_line c lines) (missed_of lines) requests size
    (greatest_size lines) (distinct_size lines) table

-- the table of these lines, each of which has a size, in JSON or as CSV; whatever its rows, the knees are those of the usual one
abbrev pub IsSizedTable : {A : Type 0} → Bool → Options A → List (List ℕ) → List ℕ → Type 0
IsSizedTable json options lines text = (table : List ℕ) × (rows : List SizedRow) × IsSizedUsualTable (size_of_lines lines) lines table
    × AreSizedRows lines options.floor (sized_capacities_asked options (length lines) (size_of_lines lines) lines table) rows
    × (text ≡ sized_table_text json options.floor (length lines) (size_of_lines lines)
    (knees (missed_of lines) (size_of_lines lines) table) rows)

-- a picture that has the table in its description; of what is drawn no clause says anything
abbrev pub IsSizedPicture : {A : Type 0} → Options A → List (List ℕ) → List ℕ → Type 0
IsSizedPicture options lines text = (table : List ℕ) × IsSizedTable false options lines table × HasTable table text

-- the summary of these lines; where there is none, the greatest size is 0
abbrev pub summary_by_size : List ℕ → List (List ℕ) → List ℕ
summary_by_size input lines = sized_summary_text (length lines) (distinct bytes_eq (reverse lines)) (length input)
    (size_of_lines lines) (distinct_size lines) (min (greatest_size lines) (distinct_size lines))

abbrev pub IsInFormBySize : {A : Type 0} → Form → Options A → List ℕ → List (List ℕ) → List ℕ → Type 0
IsInFormBySize Table options input lines text = IsSizedTable false options lines text
IsInFormBySize Json options input lines text = IsSizedTable true options lines text
IsInFormBySize Picture options input lines text = IsSizedPicture options lines text
IsInFormBySize Summary options input lines text = text ≡ summary_by_size input lines

-- the text that the options ask for, of lines that each begin with a size and have no fault
abbrev pub IsReportBySize : {A : Type 0} → Options A → List ℕ → List (List ℕ) → List ℕ → Type 0
IsReportBySize options input lines text =
    HaveSizes lines × (fault_of options lines ≡ None) × IsInFormBySize options.form options input lines text

-- the capacities for the lines that were kept, where so many of this size are the whole: at one below the greatest of their sizes
-- they have no row
abbrev pub sized_capacities_of_sample : {A : Type 0} → Options A → ℕ → ℕ → List (List ℕ) → List ℕ → List ℕ
sized_capacities_of_sample options requests size kept table =
    filter (λ c. nat_le (greatest_size kept) c) (sized_capacities_asked options requests size kept table)

-- the summary of lines of which one key in n was kept; the greatest size is that of the kept ones
abbrev pub summary_by_size_of_sample : List ℕ → ℕ → ℕ → ℕ → List (List ℕ) → List ℕ
summary_by_size_of_sample input n all size kept = sized_summary_text all
    (times n (2 ^ 64 - 1) (distinct bytes_eq (reverse kept))) (length input) size (times n (2 ^ 64 - 1) (distinct_size kept))
    (min (greatest_size kept) (distinct_size kept))

-- what such lines tell of all, of which there are so many of this size together
module _ {A : Type 0} (options : Options A) (n all size : ℕ) (kept : List (List ℕ)) where
  -- the rows of the kept lines, as told of all
  abbrev pub AreSizedRowsOfSample : List ℕ → List SizedRow → Type 0
  AreSizedRowsOfSample table shown = (rows : List SizedRow)
      × AreSizedRows kept options.floor (sized_capacities_of_sample options (all / n) (size / n) kept table) rows
      × (map sized_numbers_of shown ≡ map (sized_numbers_times n all size) rows)

  -- the knees of the kept lines, as told of all
  abbrev pub sized_knees_of_sample : List ℕ → List ℕ
  sized_knees_of_sample table = map (times n (2 ^ 64 - 1)) (knees (missed_of kept) (size / n) table)

  -- the table of such rows; to the usual table of the kept lines the whole is the part of all that they stand for
  abbrev pub IsSizedTableOfSample : Bool → List ℕ → Type 0
  IsSizedTableOfSample json text = (table : List ℕ) × (shown : List SizedRow) × IsSizedUsualTable (size / n) kept table
      × AreSizedRowsOfSample table shown
      × (text ≡ sized_table_text json options.floor all size (sized_knees_of_sample table) shown)

  abbrev pub IsSizedPictureOfSample : List ℕ → Type 0
  IsSizedPictureOfSample text = (table : List ℕ) × IsSizedTableOfSample false table × HasTable table text

  abbrev pub IsInFormBySizeOfSample : Form → List ℕ → List ℕ → Type 0
  IsInFormBySizeOfSample Table input text = IsSizedTableOfSample false text
  IsInFormBySizeOfSample Json input text = IsSizedTableOfSample true text
  IsInFormBySizeOfSample Picture input text = IsSizedPictureOfSample text
  IsInFormBySizeOfSample Summary input text = text ≡ summary_by_size_of_sample input n all size kept

-- the report of the whole input, of the lines of it that are kept, or of an input whose lines were kept before; each line has
-- a size and none a fault, also of those that are not kept
abbrev pub IsReportBySizeOf : {A : Type 0} → Sample → Options A → List ℕ → List (List ℕ) → List ℕ → Type 0
IsReportBySizeOf Whole options input lines text = IsReportBySize options input lines text
IsReportBySizeOf (OneIn n) options input lines text = HaveSizes lines × (fault_from 1 0 lines ≡ None)
    × IsInFormBySizeOfSample options (non_zero_usize_get n) (length lines) (size_of_lines lines)
    (kept_of (non_zero_usize_get n) lines) options.form input text
IsReportBySizeOf (Taken n all) options input lines text = HaveSizes lines × (fault_from 1 0 lines ≡ None)
    × IsInFormBySizeOfSample options (non_zero_usize_get n) all (times (non_zero_usize_get n) (2 ^ 64 - 1) (size_of_lines lines))
    lines options.form input text
