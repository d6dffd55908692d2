-- What is written for lines that begin with times, where entries may expire. The numbers are those of the definitions of requests
-- with times: no cache is in sight. Public clauses cite it.
use Rattle.std.specs.Prelude.{◌≡◌, ℕ, ◌+◌, ◌-◌, ◌/◌, ◌^◌, Bool, true, false, Option, None, Some, List, [], length, map, reverse, take, IsNone, IsSomeAnd, bytes_eq}
use Rattle.std.specs.Int.NonZero.{non_zero_usize_get}
use Rattle.std.specs.List.{slice_get}
use Rattle.std.specs.Map.{keys_of}
use Rattle.clru_curve.specs.AgedPasses.{aged_misses_at}
use Rattle.clru_curve.specs.IdlePasses.{idle_misses}
use Rattle.clru_model.specs.Requests.{distinct}
use Rattle.clru_text.specs.Choices.{is_json}
use Rattle.clru_text.specs.Pictures.{HasTable}
use Rattle.clru_text.specs.Samples.{times}
use Rattle.clru_text.specs.Times.{HaveTimes, idle_limit, kept_requests, requests_of, time_of_line}
use Rattle.clru_text.specs.declared.fault.Fault.{Fault}
use Rattle.clru_text.specs.declared.fault.Fault.TheVariants.{BadCapacity, Memory, Reading, Writing, Closed, NoSize, TooLarge, TooSmall}
use Rattle.clru_text.specs.declared.options.Form.{Form}
use Rattle.clru_text.specs.declared.options.Form.TheVariants.{Table, Json, Picture, Summary}
use Rattle.clru_text.specs.declared.options.Options.{Options}
use Rattle.clru_text.specs.declared.options.Sample.{Sample}
use Rattle.clru_text.specs.declared.options.Sample.TheVariants.{Whole, OneIn, Taken}
use Rattle.clru_text.specs.declared.options.Times.{Times}
use Rattle.clru_report.specs.Capacities.{aged_capacities, capacities_of, usual}
use Rattle.clru_report.specs.Faithful.{IsFaithful}
use Rattle.clru_report.specs.Knees.{knees}
use Rattle.clru_report.specs.PlainRows.{ArePlainRows}
use Rattle.clru_report.specs.Samples.{numbers_of, numbers_times}
use Rattle.clru_report.specs.Tables.{summary_text, table_text}
use Rattle.clru_report.specs.declared.rows.Row.{Row}

-- one key in so many is kept of those that are read
abbrev pub kept_in : Sample → ℕ
kept_in Whole = 1
kept_in (OneIn n) = non_zero_usize_get n
kept_in (Taken n all) = 1

-- and these are one in so many of all; a whole log is the sample of one key in one
abbrev pub part_in : Sample → ℕ
part_in Whole = 1
part_in (OneIn n) = non_zero_usize_get n
part_in (Taken n all) = non_zero_usize_get n

-- how many requests there are in all, where so many are read
abbrev pub all_by : Sample → ℕ → ℕ
all_by Whole read = read
all_by (OneIn n) read = read
all_by (Taken n all) read = all

-- the report where so many miss at each capacity, of so many keys, which are one in n of all, and of so many requests in all
module _ {A : Type 0} (options : Options A) (m : ℕ → ℕ) (keys n all : ℕ) where
  -- the rows for the capacities that are asked for, as told of all
  abbrev pub AreRowsOn : List ℕ → List Row → Type 0
  AreRowsOn table shown = (rows : List Row)
      × ArePlainRows m (capacities_of options.capacities m (all / n) keys table) rows
      × (map numbers_of shown ≡ map (numbers_times n all) rows)

  -- the knees of the usual table, as told of all
  abbrev pub knees_on : List ℕ → List ℕ
  knees_on table = map (times n (2 ^ 64 - 1)) (knees m (all / n) table)

  -- the table of these rows, in JSON or as CSV; whatever its rows, the knees are those of the usual one
  abbrev pub IsTableOn : Bool → List ℕ → Type 0
  IsTableOn json text = (table : List ℕ) × (shown : List Row) × IsFaithful m (all / n) (usual keys) table × AreRowsOn table shown
      × (text ≡ table_text json false options.floor all (knees_on table) shown)

  -- a picture that has the table in its description
  abbrev pub IsPictureOn : List ℕ → Type 0
  IsPictureOn text = (table : List ℕ) × IsTableOn false table × HasTable table text

  -- the text in the form, of an input of so many bytes
  abbrev pub IsInFormOn : Form → ℕ → List ℕ → Type 0
  IsInFormOn Table bytes text = IsTableOn false text
  IsInFormOn Json bytes text = IsTableOn true text
  IsInFormOn Picture bytes text = IsPictureOn text
  IsInFormOn Summary bytes text = text ≡ summary_text all (times n (2 ^ 64 - 1) keys) bytes

-- how many of the requests miss at a capacity under the limit
abbrev pub misses_under : Times → List (List ℕ × ℕ) → ℕ → ℕ
misses_under limits requests c = idle_misses bytes_eq (idle_limit limits) c requests

-- the report of these kept requests, by keys
abbrev pub IsReportOfKept : {A : Type 0} → Times → Options A → List (List ℕ × ℕ) → ℕ → ℕ → List ℕ → Type 0
IsReportOfKept limits options kept read bytes text =
    IsInFormOn options (misses_under limits kept) (distinct bytes_eq (reverse (keys_of kept))) (part_in options.sample)
    (all_by options.sample read) options.form bytes text

-- how many of the requests miss at a capacity under an age limit as well
abbrev pub misses_in_age : ℕ → Times → List (List ℕ × ℕ) → ℕ → ℕ
misses_in_age age limits requests c = aged_misses_at bytes_eq limits.max_idle age c requests

-- the table where so many miss at each capacity, of so many keys, which are one in n of all, and of so many requests in all: it has no
-- knees
abbrev pub IsTableAt : {A : Type 0} → Options A → (ℕ → ℕ) → (keys n all : ℕ) → List ℕ → Type 0
IsTableAt options m keys n all text = (rows : List Row) × (shown : List Row) × ArePlainRows m (aged_capacities options.capacities keys) rows
    × (map numbers_of shown ≡ map (numbers_times n all) rows)
    × (text ≡ table_text (is_json options.form) false options.floor all [] shown)

-- the report of these kept requests, by keys, where this is the age limit, if there is one
abbrev pub IsReportInAge : {A : Type 0} → Option ℕ → Times → Options A → List (List ℕ × ℕ) → ℕ → ℕ → List ℕ → Type 0
IsReportInAge None limits options kept read bytes text = IsReportOfKept limits options kept read bytes text
IsReportInAge (Some age) limits options kept read bytes text =
    IsTableAt options (misses_in_age age limits kept) (distinct bytes_eq (reverse (keys_of kept))) (part_in options.sample)
    (all_by options.sample read) text

-- the report of an input whose lines begin with times, by keys, under such an age limit
abbrev pub IsTimedReportIn : {A : Type 0} → Option ℕ → Times → Options A → List ℕ → List (List ℕ) → List ℕ → Type 0
IsTimedReportIn age limits options input lines text = HaveTimes lines
    × IsReportInAge age limits options (kept_requests (kept_in options.sample) (requests_of lines)) (length lines) (length input) text

-- the report of an input whose lines begin with times, by keys
abbrev pub IsTimedReport : {A : Type 0} → Times → Options A → List ℕ → List (List ℕ) → List ℕ → Type 0
IsTimedReport limits options input lines text = IsTimedReportIn limits.max_age limits options input lines text

-- the line of this number, counted from 1, is the first that begins with no time
abbrev pub IsFirstUntimed : ℕ → List (List ℕ) → Type 0
IsFirstUntimed n lines = (before : ℕ) × (n ≡ before + 1) × HaveTimes (take before lines)
    × IsSomeAnd (slice_get lines before) (λ line. IsNone (time_of_line line))

-- why lines have no report: one begins with no time
abbrev pub IsUntimed : Fault → List (List ℕ) → Type 0
IsUntimed BadCapacity lines = ⊥
IsUntimed Memory lines = ⊥
IsUntimed Reading lines = ⊥
IsUntimed Writing lines = ⊥
IsUntimed Closed lines = ⊥
IsUntimed (NoSize n) lines = IsFirstUntimed n lines
IsUntimed TooLarge lines = ⊥
IsUntimed (TooSmall n) lines = ⊥
