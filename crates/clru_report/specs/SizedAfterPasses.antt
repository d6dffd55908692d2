-- The curves by size of all lines and of the first ones, and what the first ones leave. No public clause cites them.
use Rattle.std.specs.Prelude.{◌≡◌, ℕ, ◌+◌, ◌-◌, ◌<◌, ◌≤◌, ◌==◌, ◌||◌, nat_lt, Bool, true, false, Option, None, Some, List, length, map, take, bytes_eq}
use Rattle.std.specs.List.{All}
use Rattle.clru_curve.specs.SizedCurves.{CurveBySize, IsSizedCurveOf, hits_within, misses_within, missed_size_within}
use Rattle.clru_text.specs.Lines.{lines_of}
use Rattle.clru_text.specs.Sizes.{HaveSizes, weight_of_line}
use Rattle.clru_text.specs.declared.fault.Fault.{Fault}
use Rattle.clru_text.specs.declared.fault.Fault.TheVariants.{TooSmall}
use Rattle.clru_text.specs.declared.options.Capacities.{Capacities}
use Rattle.clru_report.specs.Capacities.{sized_capacities_of, usual_from}
use Rattle.clru_report.specs.Faithful.{IsFaithful}
use Rattle.clru_report.specs.Knees.{knees}
use Rattle.clru_report.specs.Refusals.{NamesBelow, fault_from}
use Rattle.clru_report.specs.SizedTables.{capacity_of_sized_row}
use Rattle.clru_report.specs.declared.sized.rows.SizedRow.{SizedRow}

-- the curve of the first n lines is there if others follow
abbrev pub IsSizedHead : ℕ → List (List ℕ) → Option CurveBySize → Type 0
IsSizedHead n lines None = length lines ≤ n
IsSizedHead n lines (Some head) = (n < length lines) × IsSizedCurveOf bytes_eq weight_of_line (take n lines) head

-- the curve of the lines of an input, each of which has a size, and that of the first n of them
pub record AreSizedCurvesAround (n : ℕ) (input : List ℕ) (curve : CurveBySize) (head : Option CurveBySize) : Type 0 where
  pub sizes : HaveSizes (lines_of input)
  pub whole : IsSizedCurveOf bytes_eq weight_of_line (lines_of input) curve
  pub before : IsSizedHead n (lines_of input) head
  pub no_fault : fault_from 1 0 (lines_of input) ≡ None

module _ (curve head : CurveBySize) where
  -- what the first lines leave of the misses, and of their size
  abbrev pub misses_left : ℕ → ℕ
  misses_left c = misses_within curve c - misses_within head c

  abbrev pub missed_left : ℕ → ℕ
  missed_left c = missed_size_within curve c - missed_size_within head c

  -- where as many of all requests hit, the first ones miss as much
  abbrev pub StaysBetween : Type 0
  StaysBetween = (c d : ℕ) → hits_within c curve.steps ≡ hits_within d curve.steps → missed_size_within head c ≡ missed_size_within head d

  -- the greatest size, or a capacity with fewer misses than the one before
  abbrev pub is_fall_left : ℕ → Bool
  is_fall_left c = (c == 1 + curve.greatest_weight) || nat_lt (misses_left c) (misses_left (c - 1))

  -- a row of what is left, at a capacity at which all lines have an answer
  pub record IsRowLeft (row : SizedRow) : Type 0 where
    pub misses : row.misses ≡ misses_left (capacity_of_sized_row row)
    pub missed_size : row.missed_size ≡ missed_left (capacity_of_sized_row row)
    pub floor : row.floor ≡ None
    pub answered : curve.greatest_weight < capacity_of_sized_row row

  abbrev pub AreRowsLeft : List ℕ → List SizedRow → Type 0
  AreRowsLeft capacities rows = (map capacity_of_sized_row rows ≡ capacities) × All IsRowLeft rows

  -- the usual table of what is left, and its knees
  pub record IsUsualLeft (whole : ℕ) (table marked : List ℕ) : Type 0 where
    pub faithful : IsFaithful missed_left whole (usual_from (1 + curve.greatest_weight) curve.distinct_size) table
    pub marks : marked ≡ knees missed_left whole table

  -- the misses, or their size
  abbrev pub missing_left : Bool → ℕ → ℕ
  missing_left false c = misses_left c
  missing_left true c = missed_left c

  -- the capacities that are asked for, where so many requests of this size together are counted
  abbrev pub capacities_left : {A : Type 0} → Capacities A → ℕ → ℕ → List ℕ → List ℕ
  capacities_left capacities requests size table = sized_capacities_of capacities misses_left missed_left requests size
      (1 + curve.greatest_weight) curve.distinct_size table

  -- the rows of what is left at the capacities that are asked for, and the knees of its usual table
  pub record IsCountedOf {A : Type 0} (requests size : ℕ) (capacities : Capacities A) (marked : List ℕ) (rows : List SizedRow) : Type 0 where
    pub table : List ℕ
    pub usual : IsUsualLeft size table marked
    pub rowed : AreRowsLeft (capacities_left capacities requests size table) rows

-- a named capacity is below the first one of the curve
abbrev pub IsTooSmall : {A : Type 0} → CurveBySize → Fault → Capacities A → Type 0
IsTooSmall curve fault capacities =
    (fault ≡ TooSmall (1 + curve.greatest_weight)) × NamesBelow capacities (1 + curve.greatest_weight)
