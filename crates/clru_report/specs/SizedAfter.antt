-- What is written by size of the requests behind the first ones, which fill the cache and are not counted. Public clauses cite it.
use Rattle.std.specs.Prelude.{◌≡◌, ℕ, ◌≤◌, nat_lt, Bool, true, false, List, [], length, map, None, bytes_eq}
use Rattle.std.specs.List.{All}
use Rattle.clru_model.specs.Sizes.{misses_by_size, missed_size as missed_size_of}
use Rattle.clru_text.specs.Pictures.{HasTable}
use Rattle.clru_text.specs.Sizes.{HaveSizes, weight_of_line}
use Rattle.clru_text.specs.declared.options.Form.{Form}
use Rattle.clru_text.specs.declared.options.Form.TheVariants.{Table, Json, Picture, Summary}
use Rattle.clru_text.specs.declared.options.Options.{Options}
use Rattle.clru_report.specs.After.{behind, counted}
use Rattle.clru_report.specs.Capacities.{sized_capacities_of, usual_from}
use Rattle.clru_report.specs.Faithful.{IsFaithful}
use Rattle.clru_report.specs.Knees.{knees}
use Rattle.clru_report.specs.Refusals.{fault_of}
use Rattle.clru_report.specs.SizedReport.{distinct_size}
use Rattle.clru_report.specs.SizedTables.{capacity_of_sized_row, sized_table_text}
use Rattle.clru_report.specs.Sizes.{greatest_size, size_of_lines}
use Rattle.clru_report.specs.declared.sized.rows.SizedRow.{SizedRow}

module _ (n : ℕ) (lines : List (List ℕ)) where
  -- the size of the counted requests
  abbrev pub counted_size : ℕ
  counted_size = behind n size_of_lines lines

  -- how many of them miss at a capacity, and their size
  abbrev pub sized_misses_behind : ℕ → ℕ
  sized_misses_behind c = behind n (misses_by_size bytes_eq weight_of_line c) lines

  abbrev pub missed_behind : ℕ → ℕ
  missed_behind c = behind n (missed_size_of bytes_eq weight_of_line c) lines

  -- a row has their misses alone; no line is greater than its capacity
  pub record IsSizedRowBehind (row : SizedRow) : Type 0 where
    pub misses : row.misses ≡ sized_misses_behind (capacity_of_sized_row row)
    pub missed_size : row.missed_size ≡ missed_behind (capacity_of_sized_row row)
    pub floor : row.floor ≡ None
    pub holds_each : greatest_size lines ≤ capacity_of_sized_row row

  -- one such row for each capacity, in order
  abbrev pub AreSizedRowsBehind : List ℕ → List SizedRow → Type 0
  AreSizedRowsBehind capacities rows = (map capacity_of_sized_row rows ≡ capacities) × All IsSizedRowBehind rows

  -- the usual table of these requests: between its rows their missed size is near the straight line, by a fiftieth of their size
  abbrev pub IsSizedUsualTableBehind : List ℕ → Type 0
  IsSizedUsualTableBehind table =
      IsFaithful missed_behind counted_size (usual_from (greatest_size lines) (distinct_size lines)) table

  -- the capacities that are asked for
  abbrev pub sized_capacities_behind : {A : Type 0} → Options A → List ℕ → List ℕ
  sized_capacities_behind options table =
      sized_capacities_of options.capacities sized_misses_behind missed_behind (counted n lines) counted_size
      (greatest_size lines) (distinct_size lines) table

  -- the rows and the knees of the usual table, if some requests are counted; else there are none
  abbrev pub AreSizedCounted : {A : Type 0} → Bool → Options A → List ℕ → List SizedRow → Type 0
  AreSizedCounted false options marked rows = (marked ≡ []) × (rows ≡ [])
  AreSizedCounted true options marked rows = (table : List ℕ) × IsSizedUsualTableBehind table
      × AreSizedRowsBehind (sized_capacities_behind options table) rows × (marked ≡ knees missed_behind counted_size table)

  -- the table of these rows, in JSON or as CSV
  abbrev pub IsSizedTableAfter : {A : Type 0} → Bool → Options A → List ℕ → Type 0
  IsSizedTableAfter json options text = (marked : List ℕ) × (rows : List SizedRow)
      × AreSizedCounted (nat_lt n (length lines)) options marked rows
      × (text ≡ sized_table_text json options.floor (counted n lines) counted_size marked rows)

  -- a picture that has the table in its description
  abbrev pub IsSizedPictureAfter : {A : Type 0} → Options A → List ℕ → Type 0
  IsSizedPictureAfter options text = (table : List ℕ) × IsSizedTableAfter false options table × HasTable table text

  -- the text in the form; a summary is of all requests
  abbrev pub IsInFormBySizeAfter : {A : Type 0} → Form → Options A → List ℕ → Type 0
  IsInFormBySizeAfter Table options text = IsSizedTableAfter false options text
  IsInFormBySizeAfter Json options text = IsSizedTableAfter true options text
  IsInFormBySizeAfter Picture options text = IsSizedPictureAfter options text
  IsInFormBySizeAfter Summary options text = ⊥

-- the report behind the first n of lines that each begin with a size; a capacity may not be below the greatest size of all of them
abbrev pub IsReportBySizeAfter : {A : Type 0} → ℕ → Options A → List (List ℕ) → List ℕ → Type 0
IsReportBySizeAfter n options lines text = HaveSizes lines × (fault_of options lines ≡ None)
    × IsInFormBySizeAfter n lines options.form options text
