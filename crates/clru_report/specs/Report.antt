-- What is written for an input. The numbers are those of the definitions of requests and schedules: no cache is in sight.
use Rattle.std.specs.Prelude.{◌≡◌, ℕ, ◌-◌, ◌/◌, ◌^◌, Bool, true, false, List, length, map, reverse, Option, None, Some, IsSomeAnd, bytes_eq}
use Rattle.std.specs.Int.NonZero.{non_zero_usize_get}
use Rattle.std.specs.List.{All}
use Rattle.std.specs.Option.{option_map}
use Rattle.clru_model.specs.Requests.{distinct, misses}
use Rattle.clru_model.specs.Floor.{floor_misses}
use Rattle.clru_model.specs.Least.{IsLeast}
use Rattle.clru_text.specs.Lines.{lines_of}
use Rattle.clru_text.specs.Pictures.{HasTable}
use Rattle.clru_text.specs.Samples.{kept_of, times}
use Rattle.clru_text.specs.declared.options.Form.{Form}
use Rattle.clru_text.specs.declared.options.Form.TheVariants.{Table, Json, Picture, Summary}
use Rattle.clru_text.specs.declared.options.Options.{Options}
use Rattle.clru_text.specs.declared.options.Sample.{Sample}
use Rattle.clru_text.specs.declared.options.Sample.TheVariants.{Whole, OneIn, Taken}
use Rattle.clru_text.specs.declared.options.Times.{Times}
use Rattle.clru_report.specs.After.{IsInFormAfter}
use Rattle.clru_report.specs.Capacities.{capacities_of, usual}
use Rattle.clru_report.specs.Faithful.{IsFaithful}
use Rattle.clru_report.specs.Knees.{knees}
use Rattle.clru_report.specs.OneSize.{counted_lines}
use Rattle.clru_report.specs.Samples.{numbers_of, numbers_times}
use Rattle.clru_report.specs.SizedAfter.{IsReportBySizeAfter}
use Rattle.clru_report.specs.SizedReport.{IsReportBySizeOf}
use Rattle.clru_report.specs.SizedTimed.{IsTimedReportBySize}
use Rattle.clru_report.specs.Tables.{capacity_of_row, table_text, summary_text}
use Rattle.clru_report.specs.Timed.{IsTimedReport}
use Rattle.clru_report.specs.declared.rows.Row.{Row}

module _ {K : Type 0} (eq : K → K → Bool) (requests : List K) where
  -- the least possible misses stand in a row where they are asked for
  abbrev pub HasLeast : Bool → Row → Type 0
  HasLeast true row = IsSomeAnd row.least (IsLeast eq (capacity_of_row row) requests)
  HasLeast false row = row.least ≡ None

  -- and so does the floor of what every schedule misses, also one that lets keys pass by, where each key takes one place
  abbrev pub HasFloor : Bool → Row → Type 0
  HasFloor true row = row.floor ≡ Some (floor_misses eq (λ _. 0) (capacity_of_row row) requests)
  HasFloor false row = row.floor ≡ None

  -- a row of the requests
  abbrev pub IsRow : Bool → Bool → Row → Type 0
  IsRow least floor row =
      (row.misses ≡ misses eq (capacity_of_row row) requests) × HasLeast least row × HasFloor floor row

  -- one such row for each capacity, in order
  abbrev pub AreRows : Bool → Bool → List ℕ → List Row → Type 0
  AreRows least floor capacities rows = (map capacity_of_row rows ≡ capacities) × All (IsRow least floor) rows

-- two keys are the same if their bytes are
abbrev pub misses_of : List (List ℕ) → ℕ → ℕ
misses_of requests c = misses bytes_eq c requests

-- the usual table of these requests: between its rows the misses are near the straight line, by a fiftieth of the whole
abbrev pub IsUsualTable : ℕ → List (List ℕ) → List ℕ → Type 0
IsUsualTable whole requests table = IsFaithful (misses_of requests) whole (usual (distinct bytes_eq (reverse requests))) table

-- the capacities that are asked for, where so many requests are the whole
abbrev pub capacities_asked : {A : Type 0} → Options A → ℕ → List (List ℕ) → List ℕ → List ℕ
capacities_asked options whole requests table =
    capacities_of options.capacities (misses_of requests) whole (distinct bytes_eq (reverse requests)) table

-- the table of these requests, in JSON or as CSV; whatever its rows, the knees are those of the usual one
abbrev pub IsTable : {A : Type 0} → Bool → Options A → List (List ℕ) → List ℕ → Type 0
IsTable json options requests text = (table : List ℕ) × (rows : List Row) × IsUsualTable (length requests) requests table
    × AreRows bytes_eq requests options.least options.floor (capacities_asked options (length requests) requests table) rows
    × (text ≡ table_text json options.least options.floor (length requests) (knees (misses_of requests) (length requests) table) rows)

-- a picture that has the table in its description; of what is drawn no clause says anything
abbrev pub IsPicture : {A : Type 0} → Options A → List (List ℕ) → List ℕ → Type 0
IsPicture options requests text = (table : List ℕ) × IsTable false options requests table × HasTable table text

abbrev pub IsInForm : {A : Type 0} → Form → Options A → List ℕ → List ℕ → Type 0
IsInForm Table options input text = IsTable false options (lines_of input) text
IsInForm Json options input text = IsTable true options (lines_of input) text
IsInForm Picture options input text = IsPicture options (lines_of input) text
IsInForm Summary options input text =
    text ≡ summary_text (length (lines_of input)) (distinct bytes_eq (reverse (lines_of input))) (length input)

-- the rows that kept requests tell of all, of which there are so many; the capacities that are asked for are those for the kept ones
abbrev pub AreRowsOfSample : {A : Type 0} → Options A → Bool → ℕ → ℕ → List (List ℕ) → List ℕ → List Row → Type 0
AreRowsOfSample options floor n all kept table shown = (rows : List Row)
    × AreRows bytes_eq kept false floor (capacities_asked options (all / n) kept table) rows
    × (map numbers_of shown ≡ map (numbers_times n all) rows)

-- the knees of the kept requests, as told of all
abbrev pub knees_of_sample : ℕ → ℕ → List (List ℕ) → List ℕ → List ℕ
knees_of_sample n all kept table = map (times n (2 ^ 64 - 1)) (knees (misses_of kept) (all / n) table)

-- the table of such rows; to the usual table of the kept requests the whole is the part of all that they stand for
abbrev pub IsTableOfSample : {A : Type 0} → Bool → Options A → ℕ → ℕ → List (List ℕ) → List ℕ → Type 0
IsTableOfSample json options n all kept text = (table : List ℕ) × (shown : List Row) × IsUsualTable (all / n) kept table
    × AreRowsOfSample options options.floor n all kept table shown
    × (text ≡ table_text json false options.floor all (knees_of_sample n all kept table) shown)

abbrev pub IsPictureOfSample : {A : Type 0} → Options A → ℕ → ℕ → List (List ℕ) → List ℕ → Type 0
IsPictureOfSample options n all kept text =
    (table : List ℕ) × IsTableOfSample false options n all kept table × HasTable table text

abbrev pub IsInFormOfSample : {A : Type 0} → Form → Options A → ℕ → ℕ → List (List ℕ) → List ℕ → List ℕ → Type 0
IsInFormOfSample Table options n all kept input text = IsTableOfSample false options n all kept text
IsInFormOfSample Json options n all kept input text = IsTableOfSample true options n all kept text
IsInFormOfSample Picture options n all kept input text = IsPictureOfSample options n all kept text
IsInFormOfSample Summary options n all kept input text =
    text ≡ summary_text all (times n (2 ^ 64 - 1) (distinct bytes_eq (reverse kept))) (length input)

-- the report of the whole input, of the lines of it that are kept, or of an input whose lines were kept before
abbrev pub IsReportByKeys : {A : Type 0} → Sample → Options A → List ℕ → List ℕ → Type 0
IsReportByKeys Whole options input text = IsInForm options.form options input text
IsReportByKeys (OneIn n) options input text = IsInFormOfSample options.form options (non_zero_usize_get n)
    (length (lines_of input)) (kept_of (non_zero_usize_get n) (lines_of input)) input text
IsReportByKeys (Taken n all) options input text =
    IsInFormOfSample options.form options (non_zero_usize_get n) all (lines_of input) input text

-- where the first requests fill the cache, that of those behind them
abbrev pub IsReportByKeysFrom : {A : Type 0} → Option ℕ → Options A → List ℕ → List ℕ → Type 0
IsReportByKeysFrom None options input text = IsReportByKeys options.sample options input text
IsReportByKeysFrom (Some n) options input text = IsInFormAfter options.form n options input text

-- the same by size
abbrev pub IsReportBySizeFrom : {A : Type 0} → Option ℕ → Options A → List ℕ → List (List ℕ) → List ℕ → Type 0
IsReportBySizeFrom None options input lines text = IsReportBySizeOf options.sample options input lines text
IsReportBySizeFrom (Some n) options input lines text = IsReportBySizeAfter n options lines text

-- by keys, or by size, where lines begin with sizes, and where each key may have one size
abbrev pub IsReportBy : {A : Type 0} → Bool → Options A → List ℕ → List ℕ → Type 0
IsReportBy false options input text = IsReportByKeysFrom (option_map non_zero_usize_get options.after) options input text
IsReportBy true options input text =
    IsReportBySizeFrom (option_map non_zero_usize_get options.after) options input
    (counted_lines options.one_size (lines_of input)) text

-- where lines begin with times, under the limits, by keys, or by size, where sizes follow the times
abbrev pub IsReportTimed : {A : Type 0} → Bool → Times → Options A → List ℕ → List ℕ → Type 0
IsReportTimed false limits options input text = IsTimedReport limits options input (lines_of input) text
IsReportTimed true limits options input text = IsTimedReportBySize limits options (lines_of input) text

-- where lines begin with times or not
abbrev pub IsReportUnder : {A : Type 0} → Option Times → Options A → List ℕ → List ℕ → Type 0
IsReportUnder None options input text = IsReportBy options.sizes options input text
IsReportUnder (Some limits) options input text = IsReportTimed options.sizes limits options input text

-- the text that the options ask for, of an input whose lines are the requests
abbrev pub IsReport : {A : Type 0} → Options A → List ℕ → List ℕ → Type 0
IsReport options input text = IsReportUnder options.times options input text
