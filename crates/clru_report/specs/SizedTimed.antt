-- What is written for lines that begin with times and sizes, where entries may expire and capacities are sums of sizes. The numbers
-- are those of the definitions of requests with times: no cache is in sight. Public clauses cite it.
use Rattle.std.specs.Prelude.{◌≡◌, ℕ, ◌-◌, ◌/◌, ◌^◌, nat_le, Bool, true, false, Option, None, Some, List, [], length, map, bytes_eq}
use Rattle.std.specs.Int.NonZero.{non_zero_usize_get}
use Rattle.std.specs.List.{All, filter}
use Rattle.std.specs.Map.{keys_of}
use Rattle.clru_curve.specs.SizedAgedPasses.{aged_missed_size, aged_misses_by_size}
use Rattle.clru_curve.specs.SizedIdlePasses.{idle_missed_size, idle_misses_by_size}
use Rattle.clru_text.specs.Choices.{is_json}
use Rattle.clru_text.specs.Pictures.{HasTable}
use Rattle.clru_text.specs.Samples.{times}
use Rattle.clru_text.specs.Sizes.{HaveSizes, weight_of_line}
use Rattle.clru_text.specs.Times.{HaveTimes, idle_limit, kept_requests, requests_of, rests_of}
use Rattle.clru_text.specs.declared.options.Form.{Form}
use Rattle.clru_text.specs.declared.options.Form.TheVariants.{Table, Json, Picture, Summary}
use Rattle.clru_text.specs.declared.options.Options.{Options}
use Rattle.clru_text.specs.declared.options.Sample.{Sample}
use Rattle.clru_text.specs.declared.options.Sample.TheVariants.{Whole, OneIn, Taken}
use Rattle.clru_text.specs.declared.options.Times.{Times}
use Rattle.clru_report.specs.Capacities.{aged_capacities, sized_capacities_of, usual_from}
use Rattle.clru_report.specs.Faithful.{IsFaithful}
use Rattle.clru_report.specs.Knees.{knees}
use Rattle.clru_report.specs.Refusals.{fault_by}
use Rattle.clru_report.specs.Samples.{sized_numbers_of, sized_numbers_times}
use Rattle.clru_report.specs.SizedReport.{distinct_size}
use Rattle.clru_report.specs.SizedTables.{capacity_of_sized_row, sized_table_text}
use Rattle.clru_report.specs.Sizes.{greatest_size, size_of_lines}
use Rattle.clru_report.specs.Timed.{all_by, kept_in, part_in}
use Rattle.clru_report.specs.declared.sized.rows.SizedRow.{SizedRow}

-- the size of all requests together, where that of those that are read is this
abbrev pub size_by : Sample → ℕ → ℕ
size_by Whole size = size
size_by (OneIn n) size = size
size_by (Taken n all) size = times (non_zero_usize_get n) (2 ^ 64 - 1) size

-- a row of which no more is known than how many miss at its capacity, and of what size they are together
abbrev pub IsPlainSizedRow : (m s : ℕ → ℕ) → SizedRow → Type 0
IsPlainSizedRow m s row = (row.misses ≡ m (capacity_of_sized_row row)) × (row.missed_size ≡ s (capacity_of_sized_row row))
    × (row.floor ≡ None)

-- one such row for each capacity, in order
abbrev pub ArePlainSizedRows : (m s : ℕ → ℕ) → List ℕ → List SizedRow → Type 0
ArePlainSizedRows m s capacities rows = (map capacity_of_sized_row rows ≡ capacities) × All (IsPlainSizedRow m s) rows

-- the report where so many miss at each capacity, of such a size together, if the greatest size is g and that of the distinct keys
-- is d, and these requests are of one key in n of so many of this size in all
module _ {A : Type 0} (options : Options A) (m s : ℕ → ℕ) (g d n all size : ℕ) where
  -- the rows for the capacities that are asked for and are at least the greatest size, as told of all
  abbrev pub AreSizedRowsOn : List ℕ → List SizedRow → Type 0
  AreSizedRowsOn table shown = (rows : List SizedRow)
      × ArePlainSizedRows m s (filter (λ c. nat_le g c)
      (sized_capacities_of options.capacities m s (all / n) (size / n) g d table)) rows
      × (map sized_numbers_of shown ≡ map (sized_numbers_times n all size) rows)

  -- the knees of the usual table, as told of all
  abbrev pub sized_knees_on : List ℕ → List ℕ
  sized_knees_on table = map (times n (2 ^ 64 - 1)) (knees s (size / n) table)

  -- the table of these rows, in JSON or as CSV; whatever its rows, the knees are those of the usual one
  abbrev pub IsSizedTableOn : Bool → List ℕ → Type 0
  IsSizedTableOn json text = (table : List ℕ) × (shown : List SizedRow) × IsFaithful s (size / n) (usual_from g d) table
      × AreSizedRowsOn table shown × (text ≡ sized_table_text json options.floor all size (sized_knees_on table) shown)

  -- the text in the form: a picture has the table in its description; no summary is written of requests with times
  abbrev pub IsInFormBySizeOn : Form → List ℕ → Type 0
  IsInFormBySizeOn Table text = IsSizedTableOn false text
  IsInFormBySizeOn Json text = IsSizedTableOn true text
  IsInFormBySizeOn Picture text = (table : List ℕ) × IsSizedTableOn false table × HasTable table text
  IsInFormBySizeOn Summary text = ⊥

module _ (limits : Times) (kept : List (List ℕ × ℕ)) where
  -- how many of the requests miss at a capacity under the limit, and their size
  abbrev pub sized_misses_under : ℕ → ℕ
  sized_misses_under c = idle_misses_by_size bytes_eq weight_of_line (idle_limit limits) c kept

  abbrev pub missed_size_under : ℕ → ℕ
  missed_size_under c = idle_missed_size bytes_eq weight_of_line (idle_limit limits) c kept

  -- the report of these kept requests, by size, where so many of this size are read
  abbrev pub IsReportOfKeptBySize : {A : Type 0} → Options A → ℕ → ℕ → List ℕ → Type 0
  IsReportOfKeptBySize options read size text =
      IsInFormBySizeOn options sized_misses_under missed_size_under (greatest_size (keys_of kept)) (distinct_size (keys_of kept))
      (part_in options.sample) (all_by options.sample read) (size_by options.sample size) options.form text

-- the table from the capacity g on, where so many miss at each, of such a size together, if the distinct keys have the size d, and these
-- requests are of one key in n of so many of this size in all: it has no knees
abbrev pub IsSizedTableAt : {A : Type 0} → Options A → (m s : ℕ → ℕ) → (g d n all size : ℕ) → List ℕ → Type 0
IsSizedTableAt options m s g d n all size text = (rows : List SizedRow) × (shown : List SizedRow)
    × ArePlainSizedRows m s (filter (λ c. nat_le g c) (aged_capacities options.capacities d)) rows
    × (map sized_numbers_of shown ≡ map (sized_numbers_times n all size) rows)
    × (text ≡ sized_table_text (is_json options.form) options.floor all size [] shown)

module _ (age : ℕ) (limits : Times) (kept : List (List ℕ × ℕ)) where
  -- how many of the requests miss at a capacity under an age limit as well, and their size
  abbrev pub sized_misses_in_age : ℕ → ℕ
  sized_misses_in_age c = aged_misses_by_size bytes_eq weight_of_line limits.max_idle age c kept

  abbrev pub missed_size_in_age : ℕ → ℕ
  missed_size_in_age c = aged_missed_size bytes_eq weight_of_line limits.max_idle age c kept

-- the report of these kept requests, by size, where this is the age limit, if there is one
abbrev pub IsReportInAgeBySize : {A : Type 0} → Option ℕ → Times → List (List ℕ × ℕ) → Options A → ℕ → ℕ → List ℕ → Type 0
IsReportInAgeBySize None limits kept options read size text = IsReportOfKeptBySize limits kept options read size text
IsReportInAgeBySize (Some age) limits kept options read size text =
    IsSizedTableAt options (sized_misses_in_age age limits kept) (missed_size_in_age age limits kept) (greatest_size (keys_of kept))
    (distinct_size (keys_of kept)) (part_in options.sample) (all_by options.sample read) (size_by options.sample size) text

-- the report of lines that begin with times, behind which they begin with sizes and have no fault, under such an age limit
abbrev pub IsTimedReportBySizeIn : {A : Type 0} → Option ℕ → Times → Options A → List (List ℕ) → List ℕ → Type 0
IsTimedReportBySizeIn age limits options lines text = HaveTimes lines × HaveSizes (rests_of lines)
    × (fault_by options.sample options (rests_of lines) ≡ None)
    × IsReportInAgeBySize age limits (kept_requests (kept_in options.sample) (requests_of lines)) options (length lines)
    (size_of_lines (rests_of lines)) text

-- the report of such lines
abbrev pub IsTimedReportBySize : {A : Type 0} → Times → Options A → List (List ℕ) → List ℕ → Type 0
IsTimedReportBySize limits options lines text = IsTimedReportBySizeIn limits.max_age limits options lines text
