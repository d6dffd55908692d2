-- From a curve and its rows to the report of the lines that it is of, and to why there is none.
use Rattle.std.proofs.Common.{◌≡◌, ℕ, ◌+◌, ◌≤◌, Bool, true, false, cond, List, [], ◌∷◌, Option, None, Some, min, length, reverse, refl, sym, ap, ◌∙◌, subst, arith}
use Rattle.std.specs.Prelude.{bytes_eq, ◌==◌}
use Rattle.std.proofs.lemmas.Bool.{eqb-true}
use Rattle.std.proofs.lemmas.List.Elements.{All-map, All-weaker}
use Rattle.std.specs.List.{All, AllByRecursion}
use Rattle.clru_curve.specs.SizedCurves.{CurveBySize, IsSizedCurveOf, misses_within, missed_size_within}
use Rattle.clru_model.proofs.Cases.{split}
use Rattle.clru_model.proofs.Spans.{room_misses_first}
use Rattle.clru_least.specs.FloorNumbers.{size_floor_at}
use Rattle.clru_model.specs.Floor.{floor_misses}
use Rattle.clru_model.specs.Requests.{distinct, holds}
use Rattle.clru_model.specs.Sizes.{total, misses_by_size}
use Rattle.clru_text.specs.Faults.{is_of_input, is_of_writing}
use Rattle.clru_text.specs.Sizes.{HaveSizes, weight_of_line}
use Rattle.clru_text.specs.declared.fault.Fault.{Fault}
use Rattle.clru_text.specs.declared.fault.Fault.TheVariants.{BadCapacity, Memory, Reading, Writing, Closed, NoSize, TooLarge, TooSmall}
use Rattle.clru_text.specs.declared.options.Capacities.{Capacities}
use Rattle.clru_text.specs.declared.options.Options.{Options}
use Rattle.clru_text.proofs.ByteLemmas.{bytes_laws}
use Rattle.clru_report.specs.Capacities.{sized_capacities_of}
use Rattle.clru_report.specs.Knees.{knees}
use Rattle.clru_report.specs.Passes.{AreFloorsFor, IsOfAsked, IsOfCapacities, IsRowOf, IsTableOf, IsUsualOn, capacities_on, distinct_in, floors_at}
use Rattle.clru_report.specs.Refusals.{IsRefusedFor, IsSaidOf, fault_beside, fault_from, fault_of, names_below}
use Rattle.clru_report.specs.SizedReport.{HasFloors, IsSizedRow, IsSizedTable, IsSizedUsualTable, distinct_size, missed_of, sized_capacities_asked, summary_by_size}
use Rattle.clru_report.specs.SizedTables.{capacity_of_sized_row, row_floor, sized_summary_text, sized_table_text}
use Rattle.clru_report.specs.Sizes.{greatest_size, size_of_lines}
use Rattle.clru_report.specs.declared.sized.floors.Floors.{Floors}
use Rattle.clru_report.specs.declared.sized.rows.SizedRow.{SizedRow}
use Rattle.clru_report.proofs.CapacityLemmas.{none_below, usual_high}
use Rattle.clru_report.proofs.CurveNumbers.{capacities_by, usual_by}
use Rattle.clru_report.proofs.FaithfulTables.{table_from}
use Rattle.clru_report.proofs.FaultLemmas.{none_beside, none_named, one_named, told_beside}
use Rattle.clru_report.proofs.SettledCurves.{same_weights}

-- keys are no more than their sizes together
pub few_distinct : {K : Type 0} (eq : K → K → Bool) (weight : K → ℕ) (ks : List K) → distinct eq ks ≤ total eq weight ks
few_distinct eq weight [] = omega arith
few_distinct eq weight (x ∷ ks) =
    let ih = few_distinct eq weight ks in
    split (holds eq x ks) (λ t. rw t ih) (λ f. rw f (omega (arith, ih)))

module _ (lines : List (List ℕ)) (curve : CurveBySize) (is : IsSizedCurveOf bytes_eq weight_of_line lines curve) where
  abbrev missing : ℕ → ℕ
  missing c = misses_by_size bytes_eq weight_of_line c lines

  pub greatest_is : 1 + curve.greatest_weight ≡ greatest_size lines
  greatest_is = ap (λ n. 1 + n) is.greatest_weight

  pub capacities_are : {A : Type 0} (asked : Capacities A) (requests size : ℕ) (table : List ℕ)
      → capacities_on curve asked requests size table
      ≡ sized_capacities_of asked missing (missed_of lines) requests size (greatest_size lines) (distinct_size lines) table
  capacities_are =
      capacities_by curve missing (missed_of lines) (greatest_size lines) (distinct_size lines) is.misses is.missed_size greatest_is is.distinct_size

  -- the usual table of the curve, and its knees, are those of the lines
  pub usual_is : (whole : ℕ) (table marked : List ℕ) → IsUsualOn curve whole table marked
      → IsSizedUsualTable whole lines table × (marked ≡ knees (missed_of lines) whole table)
  usual_is =
      usual_by curve missing (missed_of lines) (greatest_size lines) (distinct_size lines) is.misses is.missed_size greatest_is is.distinct_size

  -- no row of it is below the greatest size
  usual_above : (whole : ℕ) (table marked : List ℕ) → IsUsualOn curve whole table marked
      → AllByRecursion (λ c. 1 + curve.greatest_weight ≤ c) table
  usual_above whole table marked u =
      table_from (missed_size_within curve) whole (1 + curve.greatest_weight) _ table u.faithful.added
      (usual_high (1 + curve.greatest_weight) curve.distinct_size)

  -- where both floors are those of the lines, so are those of a row
  floors_are : {A : Type 0} (floored : Bool) (floors : Option (Floors A)) (row : SizedRow) → AreFloorsFor floored lines floors
      → row.floor ≡ floors_at floors (capacity_of_sized_row row) → HasFloors lines floored row
  floors_are floored None row none at = subst (λ b. HasFloors lines b row) (sym none) at
  floors_are floored (Some floors) row both at =
      let c = capacity_of_sized_row row in
      subst (λ b. HasFloors lines b row) (sym both.0)
      (at ∙ ap (λ n. Some (row_floor n (size_floor_at floors.missed_size c))) (both.1 c)
      ∙ ap (λ n. Some (row_floor (floor_misses bytes_eq weight_of_line c lines) n)) (both.2 c))

  module _ {A : Type 0} (floored : Bool) (floors : Option (Floors A)) (both : AreFloorsFor floored lines floors) where
    pub row_is : (row : SizedRow) → IsRowOf curve floors row → IsSizedRow lines floored row
    row_is row r = record {
      misses = r.misses ∙ is.misses (capacity_of_sized_row row);
      missed_size = r.missed_size ∙ is.missed_size (capacity_of_sized_row row);
      floors = floors_are floored floors row both r.floor;
      holds_each = omega (arith, r.answered, greatest_is);
    }

  pub table_is : {A : Type 0} (json : Bool) (options : Options A) (floors : Option (Floors A)) (text : List ℕ)
      → AreFloorsFor options.floor lines floors
      → IsTableOf curve json floors options.floor options.capacities text → IsSizedTable json options lines text
  table_is json options floors text both t =
      let usual = usual_is curve.size t.table t.marked t.usual in (
        t.table,
        t.rows,
        subst (λ n. IsSizedUsualTable n lines t.table) is.size usual.0,
        (
          t.rowed.0 ∙ capacities_are options.capacities curve.requests curve.size t.table
              ∙ ap (λ n. sized_capacities_asked options n curve.size lines t.table) is.requests_in_all
              ∙ ap (λ n. sized_capacities_asked options (length lines) n lines t.table) is.size,
          All-weaker (IsRowOf curve floors) (IsSizedRow lines options.floor) (row_is options.floor floors both) t.rows t.rowed.1,
        ),
        t.is ∙ ap (λ n. sized_table_text json options.floor n curve.size t.marked t.rows) is.requests_in_all
            ∙ ap (λ ks. sized_table_text json options.floor (length lines) curve.size ks t.rows) usual.1
            ∙ ap (λ n. sized_table_text json options.floor (length lines) n (knees (missed_of lines) n t.table) t.rows) is.size,
      )

  -- with room for all keys each misses once
  pub distinct_are : distinct_in curve ≡ distinct bytes_eq (reverse lines)
  distinct_are =
      split (curve.distinct_size == 0)
      (λ t. let none : distinct bytes_eq (reverse lines) ≡ 0 =
      omega (arith, few_distinct bytes_eq weight_of_line (reverse lines), is.distinct_size, eqb-true curve.distinct_size 0 t) in
      rw t (sym none))
      (λ f. rw f (is.misses curve.distinct_size
      ∙ (room_misses_first bytes_eq bytes_laws weight_of_line same_weights curve.distinct_size lines (omega (arith, is.distinct_size))).0))

  pub summary_is : (input text : List ℕ) → text ≡ sized_summary_text curve.requests (distinct_in curve) (length input) curve.size
      curve.distinct_size (min (1 + curve.greatest_weight) curve.distinct_size) → text ≡ summary_by_size input lines
  summary_is input text t =
      t ∙ ap (λ n. sized_summary_text n (distinct_in curve) (length input) curve.size curve.distinct_size
      (min (1 + curve.greatest_weight) curve.distinct_size)) is.requests_in_all
      ∙ ap (λ n. sized_summary_text (length lines) n (length input) curve.size curve.distinct_size
      (min (1 + curve.greatest_weight) curve.distinct_size)) distinct_are
      ∙ ap (λ n. sized_summary_text (length lines) (distinct bytes_eq (reverse lines)) (length input) n curve.distinct_size
      (min (1 + curve.greatest_weight) curve.distinct_size)) is.size
      ∙ ap (λ n. sized_summary_text (length lines) (distinct bytes_eq (reverse lines)) (length input) (size_of_lines lines) n
      (min (1 + curve.greatest_weight) n)) is.distinct_size
      ∙ ap (λ n. sized_summary_text (length lines) (distinct bytes_eq (reverse lines)) (length input) (size_of_lines lines)
      (distinct_size lines) (min n (distinct_size lines))) greatest_is

  -- rows have no fault
  pub rows_free : {A : Type 0} (json : Bool) (options : Options A) (floors : Option (Floors A)) (text : List ℕ)
      → IsTableOf curve json floors options.floor options.capacities text
      → fault_from 1 0 lines ≡ None → fault_of options lines ≡ None
  rows_free json options floors text t free =
      let high = All-weaker (IsRowOf curve floors) (λ row. greatest_size lines ≤ capacity_of_sized_row row)
      (λ row r. omega (arith, r.answered, greatest_is)) t.rows t.rowed.1 in
      let all = subst (All (λ c. greatest_size lines ≤ c)) t.rowed.0 (All-map (λ c. greatest_size lines ≤ c) capacity_of_sized_row t.rows high) in
      told_beside options lines None free (none_beside options.form options.capacities (greatest_size lines)
      (none_named options.capacities (misses_within curve) (missed_size_within curve) curve.requests curve.size
      (1 + curve.greatest_weight) curve.distinct_size (greatest_size lines) t.table all))

  -- why capacities have no rows
  capacities_said : {A : Type 0} (options : Options A) (table : List ℕ) (fault : Fault)
      → AllByRecursion (λ c. 1 + curve.greatest_weight ≤ c) table → HaveSizes lines
      → IsOfCapacities curve fault (capacities_on curve options.capacities curve.requests curve.size table) → is_of_input fault ≡ true → IsSaidOf fault options lines
  capacities_said options table BadCapacity high sizes why of = why
  capacities_said options table Memory high sizes why of = cc of
  capacities_said options table Reading high sizes why of = why
  capacities_said options table Writing high sizes why of = why
  capacities_said options table Closed high sizes why of = why
  capacities_said options table (NoSize n) high sizes why of = absurd why
  capacities_said options table TooLarge high sizes why of = absurd why
  capacities_said options table (TooSmall n) high sizes why of = (
    sizes,
    why.0 ∙ greatest_is,
    rw why.0 (none_below options.capacities (misses_within curve) (missed_size_within curve) curve.requests curve.size (1 + curve.greatest_weight) curve.distinct_size why.1.0 table high
        (omega (arith, why.0, why.1.2)) why.1.1),
  )

  small_told : {A : Type 0} (options : Options A) (table : List ℕ) (fault : Fault)
      → AllByRecursion (λ c. 1 + curve.greatest_weight ≤ c) table
      → IsOfCapacities curve fault (capacities_on curve options.capacities curve.requests curve.size table) → is_of_input fault ≡ true
      → cond (names_below options.capacities (greatest_size lines)) (Some (TooSmall (greatest_size lines))) None ≡ Some fault
  small_told options table BadCapacity high why of = absurd why
  small_told options table Memory high why of = cc of
  small_told options table Reading high why of = absurd why
  small_told options table Writing high why of = absurd why
  small_told options table Closed high why of = absurd why
  small_told options table (NoSize n) high why of = absurd why
  small_told options table TooLarge high why of = absurd why
  small_told options table (TooSmall n) high why of =
      let below = none_below options.capacities (misses_within curve) (missed_size_within curve) curve.requests curve.size (1 + curve.greatest_weight) curve.distinct_size why.1.0 table high
      (omega (arith, why.0, why.1.2)) why.1.1 in
      let named = ap (names_below options.capacities) (sym greatest_is) ∙ one_named options.capacities (1 + curve.greatest_weight) below in
      ap (λ b. cond b (Some (TooSmall (greatest_size lines))) None) named ∙ ap (λ k. Some (TooSmall k)) (sym (why.0 ∙ greatest_is))

  -- and which fault that is, where the form has capacities
  pub capacities_refused : {A : Type 0} (options : Options A) (fault : Fault) → HaveSizes lines → fault_from 1 0 lines ≡ None
      → fault_beside options.form options.capacities (greatest_size lines)
      ≡ cond (names_below options.capacities (greatest_size lines)) (Some (TooSmall (greatest_size lines))) None
      → IsOfAsked curve fault options.capacities → is_of_input fault ≡ true → IsRefusedFor fault options lines
  capacities_refused options fault sizes free shown why of =
      let high = usual_above curve.size why.0 why.1 why.2 in (
        told_beside options lines (Some fault) free (shown ∙ small_told options why.0 fault high why.3 of),
        capacities_said options why.0 fault high sizes why.3 of,
      )

pub capacities_unwritten : (curve : CurveBySize) (capacities : List ℕ) (fault : Fault) → IsOfCapacities curve fault capacities
    → is_of_writing fault ≡ false
capacities_unwritten curve capacities BadCapacity why = refl
capacities_unwritten curve capacities Memory why = refl
capacities_unwritten curve capacities Reading why = refl
capacities_unwritten curve capacities Writing why = absurd why
capacities_unwritten curve capacities Closed why = absurd why
capacities_unwritten curve capacities (NoSize n) why = refl
capacities_unwritten curve capacities TooLarge why = refl
capacities_unwritten curve capacities (TooSmall n) why = refl
