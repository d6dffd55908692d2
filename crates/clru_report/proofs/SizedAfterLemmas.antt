-- The curves by size of all lines and of the first ones, and what the first ones leave.
use Rattle.std.proofs.Common.{◌≡◌, ◌≢◌, ℕ, zero, suc, ◌+◌, ◌-◌, ◌<◌, ◌≤◌, Bool, true, false, cond, not, Option, None, Some, IfSome, List, [], ◌∷◌, ◌++◌, length, map, take, nat_lt, ltb-true, inl, inr, refl, sym, ap, subst, ◌∙◌, arith}
use Rattle.std.specs.List.{All, AllByRecursion, count_by, filter}
use Rattle.std.specs.Prelude.{◌==◌, ◌||◌, bytes_eq}
use Rattle.std.proofs.lemmas.Bool.{cases_lt, lt-ltb}
use Rattle.std.proofs.lemmas.List.{length-append, map-append, take-append-le}
use Rattle.std.proofs.lemmas.List.Elements.{All-map, All-push, All-weaker}
use Rattle.std.proofs.Math.Seq.{take-append_seam}
use Rattle.clru_curve.specs.SizedCurves.{CurveBySize, IsSizedCurveOf, hits_within, misses_within, missed_size_within, size_after}
use Rattle.clru_model.proofs.Cases.{split}
use Rattle.clru_model.proofs.Marks.{count_by-not-cons}
use Rattle.clru_model.proofs.Spans.{hit_by_size_grows, misses_by_size_fall}
use Rattle.clru_model.specs.Sizes.{hit_by_size, marks_by_size_after, missed_size_after}
use Rattle.clru_text.specs.Choices.{is_summary}
use Rattle.clru_text.specs.Faults.{is_of_input}
use Rattle.clru_text.specs.Sizes.{HaveSizes, weight_of_line}
use Rattle.clru_text.specs.declared.fault.Fault.{Fault}
use Rattle.clru_text.specs.declared.fault.Fault.TheVariants.{BadCapacity, Memory, Reading, Writing, Closed, NoSize, TooLarge, TooSmall}
use Rattle.clru_text.specs.declared.options.Capacities.{Capacities}
use Rattle.clru_text.specs.declared.options.Form.{Form}
use Rattle.clru_text.specs.declared.options.Form.TheVariants.{Table, Json, Picture, Summary}
use Rattle.clru_text.specs.declared.options.Options.{Options}
use Rattle.clru_report.specs.Capacities.{sized_capacities_of, usual_from}
use Rattle.clru_report.specs.Faithful.{IsFaithful}
use Rattle.clru_report.specs.Knees.{knees}
use Rattle.clru_report.specs.Passes.{AreRowsOf, IsOfCapacities, IsRowOf}
use Rattle.clru_report.specs.Refusals.{IsRefusedFor, IsSaidOf, NamesBelow, fault_beside, fault_from, fault_of, names_below}
use Rattle.clru_report.specs.After.{counted}
use Rattle.clru_report.specs.SizedAfter.{AreSizedCounted, IsSizedRowBehind, counted_size, missed_behind, sized_misses_behind}
use Rattle.clru_report.specs.SizedAfterPasses.{AreRowsLeft, IsCountedOf, IsRowLeft, IsSizedHead, IsTooSmall, StaysBetween, is_fall_left, missed_left, misses_left}
use Rattle.clru_report.specs.SizedReport.{distinct_size}
use Rattle.clru_report.specs.SizedTables.{capacity_of_sized_row}
use Rattle.clru_report.specs.Sizes.{greatest_size}
use Rattle.clru_report.specs.declared.sized.floors.Floors.{Floors}
use Rattle.clru_report.specs.declared.sized.rows.SizedRow.{SizedRow}
use Rattle.clru_report.proofs.CapacityLemmas.{none_below, sized-alike, usual_from_some}
use Rattle.clru_report.proofs.FaithfulTables.{faithful_alike, knees_alike}
use Rattle.clru_report.proofs.Falls.{hits_grow, span}
use Rattle.clru_report.proofs.SizedPieces.{hits_are}
use Rattle.clru_report.proofs.FaultLemmas.{none_beside, none_named, one_named, told_beside}

abbrev missed_one : Bool → ℕ
missed_one hit = cond hit 0 1

module _ {K : Type 0} (eq : K → K → Bool) (weight : K → ℕ) (c d : ℕ) (more : c ≤ d) where
  -- where no fewer requests miss at the greater capacity, each one that misses at the lesser does, so the first ones miss as much
  pub same_front : (past rs : List K) (n : ℕ)
      → count_by not (marks_by_size_after eq weight c past rs) ≤ count_by not (marks_by_size_after eq weight d past rs)
      → missed_size_after eq weight c past (take n rs) ≡ missed_size_after eq weight d past (take n rs)
  same_front past rs zero few = refl
  same_front past [] (suc n) few = refl
  same_front past (x ∷ rs) (suc n) few =
      let rest = same_front (x ∷ past) rs n in
      let fall = misses_by_size_fall eq weight more (x ∷ past) rs in
      let low = count_by-not-cons (hit_by_size eq weight c x past) (marks_by_size_after eq weight c (x ∷ past) rs) in
      let high = count_by-not-cons (hit_by_size eq weight d x past) (marks_by_size_after eq weight d (x ∷ past) rs) in
      split (hit_by_size eq weight c x past)
      (λ t. let u = hit_by_size_grows eq weight more past x t in
      let a = rw t at low in let b = rw u at high in
      rw (t, u) (omega (arith, rest (omega (arith, few, low, high, ap missed_one t, ap missed_one u)))))
      (λ f. split (hit_by_size eq weight d x past)
      (λ u. absurd (omega (arith, few, low, high, fall, ap missed_one f, ap missed_one u)))
      (λ v. rw (f, v) (omega (arith, rest (omega (arith, few, low, high, ap missed_one f, ap missed_one v))))))

-- the first lines stay the same where one more line follows
pub sized_head_more : (n : ℕ) (lines : List (List ℕ)) (line : List ℕ) (head : Option CurveBySize) → length lines ≢ n
    → IsSizedHead n lines head → IsSizedHead n (lines ++ line ∷ []) head
sized_head_more n lines line None other low = omega (arith, other, low, length-append lines (line ∷ []))
sized_head_more n lines line (Some head) other is = (
  omega (arith, is.0, length-append lines (line ∷ [])),
  subst (λ ls. IsSizedCurveOf bytes_eq weight_of_line ls head) (sym (take-append-le n lines (line ∷ []) (omega (arith, is.0)))) is.1,
)

-- so many lines are the first ones
pub sized_head_now : (n : ℕ) (lines : List (List ℕ)) (line : List ℕ) (head : CurveBySize) → length lines ≡ n
    → IsSizedCurveOf bytes_eq weight_of_line lines head → IsSizedHead n (lines ++ line ∷ []) (Some head)
sized_head_now n lines line head is has = (
  omega (arith, is, length-append lines (line ∷ [])),
  subst (λ k. IsSizedCurveOf bytes_eq weight_of_line (take k (lines ++ line ∷ [])) head) is
      (subst (λ ls. IsSizedCurveOf bytes_eq weight_of_line ls head) (sym (take-append_seam lines (line ∷ []))) has),
)

module _ (n : ℕ) (lines : List (List ℕ)) (curve head : CurveBySize) (is : IsSizedCurveOf bytes_eq weight_of_line lines curve)
    (first : IsSizedCurveOf bytes_eq weight_of_line (take n lines) head) where
  -- from one step of the curve up to the next the first lines miss as much
  pub stays_between : StaysBetween curve head
  stays_between c d same =
      let alike : misses_within curve c ≡ misses_within curve d = ap (λ h. curve.requests - h) same in
      let front : missed_size_after bytes_eq weight_of_line c [] (take n lines) ≡ missed_size_after bytes_eq weight_of_line d [] (take n lines) =
      elim (cases_lt c d) [
        | inl less ↦ same_front bytes_eq weight_of_line c d (omega (arith, less)) [] lines n
            (omega (arith, alike, is.misses c, is.misses d))
        | inr more ↦ sym (same_front bytes_eq weight_of_line d c (omega (arith, more)) [] lines n
            (omega (arith, alike, is.misses c, is.misses d)))
      ] in
      first.missed_size c ∙ front ∙ sym (first.missed_size d)

  -- what is left is what misses behind the first lines
  pub misses_left_are : (c : ℕ) → misses_left curve head c ≡ sized_misses_behind n lines c
  misses_left_are c = omega (arith, is.misses c, first.misses c)

  pub missed_left_are : (c : ℕ) → missed_left curve head c ≡ missed_behind n lines c
  missed_left_are c = omega (arith, is.missed_size c, first.missed_size c)

  greatest_is : 1 + curve.greatest_weight ≡ greatest_size lines
  greatest_is = ap (λ g. 1 + g) is.greatest_weight

  -- so are its table, its rows and its knees
  row_is : (row : SizedRow) → IsRowLeft curve head row → IsSizedRowBehind n lines row
  row_is row r = record {
    misses = r.misses ∙ misses_left_are (capacity_of_sized_row row);
    missed_size = r.missed_size ∙ missed_left_are (capacity_of_sized_row row);
    floor = r.floor;
    holds_each = omega (arith, r.answered, greatest_is);
  }

  pub counted_are : {A : Type 0} (requests whole : ℕ) (options : Options A) (marked : List ℕ) (rows : List SizedRow)
      → IsCountedOf curve head requests whole options.capacities marked rows → requests ≡ counted n lines → whole ≡ counted_size n lines
      → AreSizedCounted n lines true options marked rows
  counted_are requests whole options marked rows of count all =
      let capacities = usual_from (1 + curve.greatest_weight) curve.distinct_size in
      let some = usual_from_some (1 + curve.greatest_weight) curve.distinct_size in
      let usual : capacities ≡ usual_from (greatest_size lines) (distinct_size lines) =
      ap (λ g. usual_from g curve.distinct_size) greatest_is ∙ ap (usual_from (greatest_size lines)) is.distinct_size in
      let made = of.usual.faithful.added in let table = of.table in (
        table,
        subst (λ w. IsFaithful (missed_behind n lines) w (usual_from (greatest_size lines) (distinct_size lines)) table) all
            (subst (λ cs. IsFaithful (missed_behind n lines) whole cs table) usual
            (faithful_alike (missed_left curve head) (missed_behind n lines) (λ c _. missed_left_are c) whole capacities table some made)),
        (
          of.rowed.0
              ∙ sized-alike (misses_left curve head) (sized_misses_behind n lines) (missed_left curve head) (missed_behind n lines)
              misses_left_are missed_left_are options.capacities requests whole (1 + curve.greatest_weight) curve.distinct_size table
              ∙ ap (λ g. sized_capacities_of options.capacities (sized_misses_behind n lines) (missed_behind n lines) requests whole g
              curve.distinct_size table) greatest_is
              ∙ ap (λ k. sized_capacities_of options.capacities (sized_misses_behind n lines) (missed_behind n lines) requests whole
              (greatest_size lines) k table) is.distinct_size
              ∙ ap (λ k. sized_capacities_of options.capacities (sized_misses_behind n lines) (missed_behind n lines) k whole
              (greatest_size lines) (distinct_size lines) table) count
              ∙ ap (λ k. sized_capacities_of options.capacities (sized_misses_behind n lines) (missed_behind n lines) (counted n lines) k
              (greatest_size lines) (distinct_size lines) table) all,
          All-weaker (IsRowLeft curve head) (IsSizedRowBehind n lines) row_is rows of.rowed.1,
        ),
        of.usual.marks
            ∙ knees_alike (missed_left curve head) (missed_behind n lines) (λ c _. missed_left_are c) whole capacities table some made
            ∙ ap (λ w. knees (missed_behind n lines) w table) all,
      )

module _ {A : Type 0} (curve : CurveBySize) (asked : Capacities A) (m s : ℕ → ℕ) (requests size : ℕ) (table : List ℕ) where
  abbrev asked_at : List ℕ
  asked_at = sized_capacities_of asked m s requests size (1 + curve.greatest_weight) curve.distinct_size table

  -- capacities with rows are not too small
  pub rows_fit : {B : Type 0} (floors : Option (Floors B)) (rows : List SizedRow) → AreRowsOf curve floors asked_at rows
      → names_below asked (1 + curve.greatest_weight) ≡ false
  rows_fit floors rows are =
      let high = All-weaker (IsRowOf curve floors) (λ row. 1 + curve.greatest_weight ≤ capacity_of_sized_row row)
      (λ row r. omega (arith, r.answered)) rows are.1 in
      none_named asked m s requests size (1 + curve.greatest_weight) curve.distinct_size (1 + curve.greatest_weight) table
      (subst (All (λ c. 1 + curve.greatest_weight ≤ c)) are.0 (All-map (λ c. 1 + curve.greatest_weight ≤ c) capacity_of_sized_row rows high))

  -- one that has none is
  pub too_small : (fault : Fault) → AllByRecursion (λ c. 1 + curve.greatest_weight ≤ c) table → IsOfCapacities curve fault asked_at
      → is_of_input fault ≡ true → IsTooSmall curve fault asked
  too_small BadCapacity high why of = absurd why
  too_small Memory high why of = cc of
  too_small Reading high why of = absurd why
  too_small Writing high why of = absurd why
  too_small Closed high why of = absurd why
  too_small (NoSize n) high why of = absurd why
  too_small TooLarge high why of = absurd why
  too_small (TooSmall n) high why of = (
    ap TooSmall why.0,
    none_below asked m s requests size (1 + curve.greatest_weight) curve.distinct_size why.1.0 table high (omega (arith, why.0, why.1.2)) why.1.1,
  )

-- in a piece of the curve without a step what is left stays the same
pub left_stays : (curve head : CurveBySize) → StaysBetween curve head → (i last y : ℕ) → i ≤ length curve.steps → last ≤ y
    → ((j : ℕ) → j < i → span curve j ≤ last) → ((j : ℕ) → i ≤ j → j < length curve.steps → y < span curve j)
    → missed_left curve head y ≡ missed_left curve head last
left_stays curve head stays i last y inside from early late =
    let here = hits_are curve i y inside (λ j low. omega (arith, early j low, from)) late in
    let before = hits_are curve i last inside early (λ j high low. omega (arith, late j high low, from)) in
    let same : hits_within y curve.steps ≡ hits_within last curve.steps = sym here ∙ before in
    ap (λ k. size_after curve.size curve.steps k - missed_size_within head y) same
    ∙ ap (λ k. missed_size_within curve last - k) (stays y last same)

-- one more row
pub rows_more_left : (curve head : CurveBySize) (chosen more : List ℕ) (rows next : List SizedRow) (row : SizedRow)
    → AreRowsLeft curve head chosen rows → next ≡ rows ++ row ∷ [] → more ≡ chosen ++ capacity_of_sized_row row ∷ []
    → IsRowLeft curve head row → AreRowsLeft curve head more next
rows_more_left curve head chosen more rows next row are pushed longer is = (
  ap (map capacity_of_sized_row) pushed ∙ map-append capacity_of_sized_row rows (row ∷ [])
      ∙ ap (λ ns. ns ++ capacity_of_sized_row row ∷ []) are.0 ∙ sym longer,
  subst (All (IsRowLeft curve head)) (sym pushed) (All-push (IsRowLeft curve head) rows row are.1 is),
)

-- what passes one test and so another one passes it among those that pass the other
pub filter_within : (p q : ℕ → Bool) → ((x : ℕ) → p x ≡ true → q x ≡ true) → (xs : List ℕ) → filter p (filter q xs) ≡ filter p xs
filter_within p q so [] = refl
filter_within p q so (x ∷ xs) =
    let rest = filter_within p q so xs in
    split (q x)
    (λ t. rw t (ap (λ ys. cond (p x) (x ∷ ys) ys) rest))
    (λ f. split (p x) (λ u. absurd (cc (so x u, f))) (λ v. rw (f, v) rest))

-- the head misses no less at the capacity before
pub head_falls : (head : CurveBySize) (c : ℕ) → misses_within head c ≤ misses_within head (c - 1)
head_falls head zero = omega arith
head_falls head (suc c) =
    let back : suc c - 1 ≡ c = omega arith in omega (arith, hits_grow c head.steps, ap (λ k. hits_within k head.steps) back)

-- where what is left falls, the curve does
pub left_falls : (curve head : CurveBySize) (c : ℕ) → is_fall_left curve head c ≡ true
    → ((c == 1 + curve.greatest_weight) || nat_lt (misses_within curve c) (misses_within curve (c - 1))) ≡ true
left_falls curve head c h =
    split (c == 1 + curve.greatest_weight)
    (λ t. rw t refl)
    (λ f. let less = ltb-true (misses_left curve head c) (misses_left curve head (c - 1)) (rw f at h) in
    rw f (lt-ltb (misses_within curve c) (misses_within curve (c - 1)) (omega (arith, less, head_falls head c))))

pub head_stays : (n : ℕ) (lines : List (List ℕ)) (curve : CurveBySize) (head : Option CurveBySize)
    → IsSizedCurveOf bytes_eq weight_of_line lines curve → IsSizedHead n lines head → IfSome head (StaysBetween curve)
head_stays n lines curve None is first = tt
head_stays n lines curve (Some head) is first = stays_between n lines curve head is first.1

-- where rows are asked for, the capacities beside the lines are looked at
beside_rows : {A : Type 0} (form : Form) (capacities : Capacities A) (n : ℕ) → is_summary form ≡ false
    → fault_beside form capacities n ≡ cond (names_below capacities n) (Some (TooSmall n)) None
beside_rows Table capacities n rows = refl
beside_rows Json capacities n rows = refl
beside_rows Picture capacities n rows = refl
beside_rows Summary capacities n rows = cc rows

module _ {A : Type 0} (options : Options A) (lines : List (List ℕ)) (curve : CurveBySize) (is : IsSizedCurveOf bytes_eq weight_of_line lines curve)
    (free : fault_from 1 0 lines ≡ None) where
  abbrev least : ℕ
  least = greatest_size lines

  least_is : 1 + curve.greatest_weight ≡ least
  least_is = ap (λ g. 1 + g) is.greatest_weight

  -- capacities that are not too small have no fault
  pub capacities_free : names_below options.capacities (1 + curve.greatest_weight) ≡ false → fault_of options lines ≡ None
  capacities_free none =
      told_beside options lines None free (none_beside options.form options.capacities least
      (subst (λ n. names_below options.capacities n ≡ false) least_is none))

  -- one that is has this one
  pub too_small_refused : (fault : Fault) → HaveSizes lines → is_summary options.form ≡ false → IsTooSmall curve fault options.capacities
      → IsRefusedFor fault options lines
  too_small_refused fault sizes rows small =
      let below = subst (NamesBelow options.capacities) least_is small.1 in
      let told : fault ≡ TooSmall least = small.0 ∙ ap TooSmall least_is in (
        told_beside options lines (Some fault) free (beside_rows options.form options.capacities least rows
            ∙ ap (λ b. cond b (Some (TooSmall least)) None) (one_named options.capacities least below) ∙ ap Some (sym told)),
        subst (λ f. IsSaidOf f options lines) (sym told) (sizes, refl, below),
      )
