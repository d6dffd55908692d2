-- What a pass over lines has taken, and what it answers. No public clause cites it.
use Rattle.std.specs.Prelude.{◌≡◌, Bool, true, false, ◌&&◌, Option, None, Some, ℕ, ◌+◌, ◌<◌, ◌≤◌, ◌^◌, List, length, map, reverse, bytes_eq, ◌==◌, if◌then◌else◌, ⊤}
use Rattle.std.specs.List.{All, Contains}
use Rattle.clru_curve.specs.SizedCurves.{CurveBySize, IsSizedCurveOf, misses_within, missed_size_within}
use Rattle.clru_curve.specs.Curves.{HasMissesOf, misses_at}
use Rattle.clru_least.specs.Passes.{IsForesight}
use Rattle.clru_least.specs.FloorNumbers.{Floored, IsFloorOf, IsSizeFloorOf, floor_at, size_floor_at}
use Rattle.clru_least.specs.Reuses.{IsFloorPass, Reused}
use Rattle.clru_model.specs.Requests.{distinct}
use Rattle.clru_text.specs.Keys.{line_of, same_line}
use Rattle.clru_text.specs.Lines.{lines_of}
use Rattle.clru_text.specs.Pictures.{HasTable}
use Rattle.clru_text.specs.Samples.{kept_of}
use Rattle.clru_text.specs.Sizes.{HaveSizes, weight_of_line}
use Rattle.clru_text.specs.declared.fault.Fault.{Fault}
use Rattle.clru_text.specs.declared.fault.Fault.TheVariants.{BadCapacity, Memory, Reading, Writing, Closed, NoSize, TooLarge, TooSmall}
use Rattle.clru_text.specs.declared.lines.OwnedKey.{OwnedKey}
use Rattle.clru_text.specs.declared.options.Capacities.{Capacities}
use Rattle.clru_text.specs.declared.options.Form.{Form}
use Rattle.clru_text.specs.declared.options.Form.TheVariants.{Table, Json, Picture, Summary}
use Rattle.clru_text.specs.declared.options.Options.{Options}
use Rattle.clru_report.specs.Capacities.{sized_capacities_of, usual_from}
use Rattle.clru_report.specs.Faithful.{IsFaithful}
use Rattle.clru_report.specs.Knees.{knees}
use Rattle.clru_report.specs.Refusals.{IsFirstWithout, fault_from}
use Rattle.clru_report.specs.Sizes.{size_of_lines}
use Rattle.clru_report.specs.Tables.{summary_text, table_text}
use Rattle.clru_report.specs.SizedTables.{capacity_of_sized_row, row_floor, sized_table_text}
use Rattle.clru_report.specs.declared.rows.Row.{Row}
use Rattle.clru_report.specs.declared.text.Counts.{Counts}
use Rattle.clru_report.specs.declared.sized.floors.Floors.{Floors}
use Rattle.clru_report.specs.declared.sized.floors.RowFloor.{RowFloor}
use Rattle.clru_report.specs.declared.sized.rows.SizedRow.{SizedRow}

-- at each capacity the curve has so many misses
abbrev pub HasMisses : (ℕ → ℕ) → List ℕ → Type 0
HasMisses m curve = (k : ℕ) → 0 < k → misses_at curve k ≡ m k

abbrev pub weight_of_key : {A : Type 0} → OwnedKey A → ℕ
weight_of_key x = weight_of_line (line_of x)

-- the curve of the lines of an input that a sample keeps, with the number of all lines and that of the bytes
pub record IsCurveOfKept (n : ℕ) (input : List ℕ) (curve : List ℕ) (requests bytes : ℕ) : Type 0 where
  pub misses : HasMissesOf bytes_eq (kept_of n (lines_of input)) curve
  pub distinct_keys : length curve ≡ distinct bytes_eq (reverse (kept_of n (lines_of input)))
  pub counted : requests ≡ length (lines_of input)
  pub in_bytes : bytes ≡ length input

-- a text in the form has rows
abbrev pub has_rows : Form → Bool
has_rows Table = true
has_rows Json = true
has_rows Picture = true
has_rows Summary = false

-- rows with the least possible misses are asked for
abbrev pub wants_least : {A : Type 0} → Options A → Bool
wants_least options = has_rows options.form && options.least

-- and so are rows with the floor
abbrev pub wants_floor : {A : Type 0} → Options A → Bool
wants_floor options = has_rows options.form && options.floor

-- the curve by size of these lines of an input that a sample keeps, with the number and the size of all of them, each of which has
-- a size, and the bytes of the input
pub record IsSizedCurveOfKept (n : ℕ) (input : List ℕ) (lines : List (List ℕ)) (curve : CurveBySize) (requests size bytes : ℕ) : Type 0 where
  pub sizes : HaveSizes lines
  pub of_kept : IsSizedCurveOf bytes_eq weight_of_line (kept_of n lines) curve
  pub no_fault : fault_from 1 0 lines ≡ None
  pub counted : requests ≡ length lines
  pub summed : size ≡ size_of_lines lines
  pub in_bytes : bytes ≡ length input

-- the foresight took these lines
pub record HasForeseen (A : Type 0) (lines : List (List ℕ)) (later : List ℕ) : Type 0 where
  pub past : List (OwnedKey A)
  pub shown : map line_of (reverse past) ≡ lines
  pub taken : IsForesight same_line past later

-- the foresight is there if it was asked for, and took these keys
abbrev pub HasForesight : {A : Type 0} → Bool → List (OwnedKey A) → Option (List ℕ) → Type 0
HasForesight least past None = least ≡ false
HasForesight least past (Some later) = (least ≡ true) × IsForesight same_line past later

-- and so is the pass for a floor, where keys weigh what is said of their lines
abbrev pub HasFloorPass : {A : Type 0} → (List ℕ → ℕ) → Bool → List (OwnedKey A) → Option Reused → Type 0
HasFloorPass weight floor past None = floor ≡ false
HasFloorPass weight floor past (Some reused) = (floor ≡ true) × IsFloorPass same_line (λ key. weight (line_of key)) past reused

abbrev pub IsForeseenFor : Type 0 → Bool → List (List ℕ) → Option (List ℕ) → Type 0
IsForeseenFor A least lines None = least ≡ false
IsForeseenFor A least lines (Some later) = (least ≡ true) × HasForeseen A lines later

abbrev pub IsFloorFor : Bool → List (List ℕ) → Option Floored → Type 0
IsFloorFor floor lines None = floor ≡ false
IsFloorFor floor lines (Some floored) = (floor ≡ true) × IsFloorOf bytes_eq (λ _. 0) lines floored

-- both floors by size are there if they are asked for
abbrev pub AreFloorsFor : {A : Type 0} → Bool → List (List ℕ) → Option (Floors A) → Type 0
AreFloorsFor floor lines None = floor ≡ false
AreFloorsFor floor lines (Some floors) = (floor ≡ true)
    × IsFloorOf bytes_eq weight_of_line lines floors.misses × IsSizeFloorOf bytes_eq weight_of_line lines floors.missed_size

-- what they are at a capacity
abbrev pub floors_at : {A : Type 0} → Option (Floors A) → ℕ → Option RowFloor
floors_at None c = None
floors_at (Some floors) c = Some (row_floor (floor_at floors.misses c) (size_floor_at floors.missed_size c))

-- the text in the form, with these rows, knees and numbers
abbrev pub IsTextByKeys : Form → Bool → Bool → Counts → List ℕ → List Row → List ℕ → Type 0
IsTextByKeys Table least floor counts knees rows text = text ≡ table_text false least floor counts.requests knees rows
IsTextByKeys Json least floor counts knees rows text = text ≡ table_text true least floor counts.requests knees rows
IsTextByKeys Picture least floor counts knees rows text = HasTable (table_text false least floor counts.requests knees rows) text
IsTextByKeys Summary least floor counts knees rows text = text ≡ summary_text counts.requests counts.distinct counts.bytes

-- why lines have no curve
abbrev pub IsOfLines : Fault → List (List ℕ) → Type 0
IsOfLines BadCapacity lines = ⊥
IsOfLines Memory lines = ⊤
IsOfLines Reading lines = ⊥
IsOfLines Writing lines = ⊥
IsOfLines Closed lines = ⊥
IsOfLines (NoSize n) lines = IsFirstWithout n lines
IsOfLines TooLarge lines = 2 ^ 64 ≤ size_of_lines lines
IsOfLines (TooSmall n) lines = ⊥

-- the curve answers capacities from some size on, and from the size of the distinct keys on its misses stay as they are
pub record IsSettled (curve : CurveBySize) : Type 0 where
  pub greatest : 0 < curve.distinct_size → curve.greatest_weight < curve.distinct_size
  pub none : curve.distinct_size ≡ 0 → curve.greatest_weight ≡ 0
  pub settled : (c : ℕ) → curve.distinct_size ≤ c → misses_within curve c ≡ misses_within curve curve.distinct_size

-- the misses where there is room for all keys, of which each misses once
abbrev pub distinct_in : CurveBySize → ℕ
distinct_in curve = if curve.distinct_size == 0 then 0 else misses_within curve curve.distinct_size

module _ (curve : CurveBySize) where
  module _ {A : Type 0} (floors : Option (Floors A)) where
    -- a row of the curve, which answers at its capacity, and of the floors if they are there
    pub record IsRowOf (row : SizedRow) : Type 0 where
      pub misses : row.misses ≡ misses_within curve (capacity_of_sized_row row)
      pub missed_size : row.missed_size ≡ missed_size_within curve (capacity_of_sized_row row)
      pub floor : row.floor ≡ floors_at floors (capacity_of_sized_row row)
      pub answered : curve.greatest_weight < capacity_of_sized_row row

    -- one such row for each capacity, in order
    abbrev pub AreRowsOf : List ℕ → List SizedRow → Type 0
    AreRowsOf capacities rows = (map capacity_of_sized_row rows ≡ capacities) × All IsRowOf rows

  -- the usual table of the curve, and its knees
  pub record IsUsualOn (whole : ℕ) (table marked : List ℕ) : Type 0 where
    pub faithful : IsFaithful (missed_size_within curve) whole (usual_from (1 + curve.greatest_weight) curve.distinct_size) table
    pub marks : marked ≡ knees (missed_size_within curve) whole table

  -- the capacities that are asked for, where so many requests of this size together are the whole
  abbrev pub capacities_on : {A : Type 0} → Capacities A → ℕ → ℕ → List ℕ → List ℕ
  capacities_on capacities requests size table = sized_capacities_of capacities (misses_within curve) (missed_size_within curve)
      requests size (1 + curve.greatest_weight) curve.distinct_size table

  -- the text of a table of such rows, with the floors if they are there, in JSON or as CSV
  pub record IsTableOf {A : Type 0} (json : Bool) (floors : Option (Floors A)) (floor : Bool) (capacities : Capacities A) (text : List ℕ) : Type 0 where
    pub table : List ℕ
    pub marked : List ℕ
    pub rows : List SizedRow
    pub usual : IsUsualOn curve.size table marked
    pub rowed : AreRowsOf floors (capacities_on capacities curve.requests curve.size table) rows
    pub is : text ≡ sized_table_text json floor curve.requests curve.size marked rows

  -- why capacities have no rows
  abbrev pub IsOfCapacities : Fault → List ℕ → Type 0
  IsOfCapacities BadCapacity capacities = ⊥
  IsOfCapacities Memory capacities = ⊤
  IsOfCapacities Reading capacities = ⊥
  IsOfCapacities Writing capacities = ⊥
  IsOfCapacities Closed capacities = ⊥
  IsOfCapacities (NoSize n) capacities = ⊥
  IsOfCapacities TooLarge capacities = ⊥
  IsOfCapacities (TooSmall n) capacities =
      (n ≡ 1 + curve.greatest_weight) × ((capacity : ℕ) × Contains capacities capacity × (capacity < n))

  -- why they have none, beside the usual table
  abbrev pub IsOfAsked : {A : Type 0} → Fault → Capacities A → Type 0
  IsOfAsked fault capacities = (table : List ℕ) × (marked : List ℕ) × IsUsualOn curve.size table marked
      × IsOfCapacities fault (capacities_on capacities curve.requests curve.size table)
