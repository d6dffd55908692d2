-- From the text of a curve by size to the report under limits, and to why there is none.
use Rattle.std.proofs.Common.{◌≡◌, ℕ, ◌+◌, ◌-◌, ◌/◌, ◌^◌, nat_le, Bool, true, false, ◌&&◌, List, [], ◌∷◌, ◌++◌, None, Some, map, refl, sym, ap, subst, ◌∙◌}
use Rattle.std.specs.List.{filter}
use Rattle.std.specs.Map.{keys_of}
use Rattle.std.proofs.lemmas.List.{map-append}
use Rattle.std.proofs.lemmas.List.Elements.{All-filter, All-push, All-weaker}
use Rattle.clru_curve.specs.SizedCurves.{CurveBySize, misses_within, missed_size_within}
use Rattle.clru_text.specs.Choices.{is_summary, is_whole}
use Rattle.clru_text.specs.Samples.{times}
use Rattle.clru_text.specs.Sizes.{HaveSizes}
use Rattle.clru_text.specs.Times.{kept_requests, requests_of, rests_of}
use Rattle.clru_text.specs.declared.fault.Fault.TheVariants.{TooSmall}
use Rattle.clru_text.specs.declared.options.Form.{Form}
use Rattle.clru_text.specs.declared.options.Form.TheVariants.{Table, Json, Picture, Summary}
use Rattle.clru_text.specs.declared.options.Options.{Options}
use Rattle.clru_text.specs.declared.options.Sample.{Sample}
use Rattle.clru_text.specs.declared.options.Sample.TheVariants.{Whole, OneIn, Taken}
use Rattle.clru_report.specs.Passes.{IsRowOf, capacities_on}
use Rattle.clru_report.specs.Refusals.{IsRefusedBy, fault_by, fault_from, names_below}
use Rattle.clru_report.specs.SampleTables.{IsSampledTable, IsSampledText}
use Rattle.clru_report.specs.SizedTables.{capacity_of_sized_row, sized_table_text}
use Rattle.clru_report.specs.SizedTimed.{ArePlainSizedRows, IsInFormBySizeOn, IsPlainSizedRow, IsSizedTableOn}
use Rattle.clru_report.specs.Sizes.{greatest_size}
use Rattle.clru_report.specs.Timed.{kept_in}
use Rattle.clru_report.specs.declared.sized.rows.SizedRow.{SizedRow}
use Rattle.clru_report.proofs.CapacityLemmas.{map-filter}
use Rattle.clru_report.proofs.CurveNumbers.{capacities_by, usual_by}
use Rattle.clru_report.proofs.FaultLemmas.{named_one, none_beside, refused_whole, some_beside, told_beside}
use Rattle.clru_report.proofs.SizedTimedLines.{whole_keys}

-- one row more
pub plain_sized_more : (m s : ℕ → ℕ) (chosen more : List ℕ) (rows next : List SizedRow) (row : SizedRow)
    → ArePlainSizedRows m s chosen rows → next ≡ rows ++ row ∷ [] → more ≡ chosen ++ capacity_of_sized_row row ∷ []
    → IsPlainSizedRow m s row → ArePlainSizedRows m s more next
plain_sized_more m s chosen more rows next row are pushed longer is = (
  ap (map capacity_of_sized_row) pushed ∙ map-append capacity_of_sized_row rows (row ∷ [])
      ∙ ap (λ ns. ns ++ capacity_of_sized_row row ∷ []) are.0 ∙ sym longer,
  (subst (λ rs. ArePlainSizedRows m s (map capacity_of_sized_row rs) rs) (sym pushed)
      (refl, All-push (IsPlainSizedRow m s) rows row are.1 is)).1,
)

-- those from a capacity on
pub plain_sized_from : (m s : ℕ → ℕ) (g : ℕ) (chosen : List ℕ) (rows : List SizedRow) → ArePlainSizedRows m s chosen rows
    → ArePlainSizedRows m s (filter (λ c. nat_le g c) chosen) (filter (λ row. nat_le g (capacity_of_sized_row row)) rows)
plain_sized_from m s g chosen rows are = (
  map-filter (λ c. nat_le g c) capacity_of_sized_row rows ∙ ap (filter (λ c. nat_le g c)) are.0,
  All-filter (λ row. nat_le g (capacity_of_sized_row row)) (IsPlainSizedRow m s) rows are.1,
)

module _ {A : Type 0} (options : Options A) (curve : CurveBySize) (m s : ℕ → ℕ) (g d n all size : ℕ)
    (misses : (c : ℕ) → misses_within curve c ≡ m c) (missed : (c : ℕ) → missed_size_within curve c ≡ s c)
    (greatest : 1 + curve.greatest_weight ≡ g) (together : curve.distinct_size ≡ d) where
  plain_row : (row : SizedRow) → IsRowOf curve {A = A} None row → IsPlainSizedRow m s row
  plain_row row r = (r.misses ∙ misses (capacity_of_sized_row row), r.missed_size ∙ missed (capacity_of_sized_row row), r.floor)

  table_on : (json : Bool) (text : List ℕ) → IsSampledTable curve None options n all size json text
      → IsSizedTableOn options m s g d n all size json text
  table_on json text t =
      let usual = usual_by curve m s g d misses missed greatest together (size / n) t.table t.marked t.usual in
      let rows = t.rowed.0 in let asked = options.capacities in (
        t.table,
        t.shown,
        usual.0,
        (
          rows,
          (
            t.rowed.1.0
                ∙ ap (λ k. filter (λ c. nat_le k c) (capacities_on curve asked (all / n) (size / n) t.table)) greatest
                ∙ ap (filter (λ c. nat_le g c)) (capacities_by curve m s g d misses missed greatest together asked (all / n) (size / n) t.table),
            All-weaker (IsRowOf curve None) (IsPlainSizedRow m s) plain_row rows t.rowed.1.1,
          ),
          t.rowed.2,
        ),
        t.is ∙ ap (λ ks. sized_table_text json options.floor all size (map (times n (2 ^ 64 - 1)) ks) t.shown) usual.1,
      )

  pub sized_form_on : (form : Form) (bytes : ℕ) (text : List ℕ) → is_summary form ≡ false
      → IsSampledText curve None options n all size form bytes text → IsInFormBySizeOn options m s g d n all size form text
  sized_form_on Table bytes text rows t = table_on false text t
  sized_form_on Json bytes text rows t = table_on true text t
  sized_form_on Picture bytes text rows t = (t.0, table_on false t.0 t.1, t.2)
  sized_form_on Summary bytes text rows t = cc rows

module _ {A : Type 0} (options : Options A) (lines : List (List ℕ)) (free : fault_from 1 0 lines ≡ None) where
  -- lines have no fault unless a whole log has no row at a named capacity
  pub none_small : (sample : Sample) → (is_whole sample && names_below options.capacities (greatest_size lines)) ≡ false
      → fault_by sample options lines ≡ None
  none_small Whole none = told_beside options lines None free (none_beside options.form options.capacities (greatest_size lines) none)
  none_small (OneIn n) none = free
  none_small (Taken n all) none = free

  -- which is then its fault
  pub too_small : (sample : Sample) → is_summary options.form ≡ false → HaveSizes lines → is_whole sample ≡ true
      → names_below options.capacities (greatest_size lines) ≡ true → IsRefusedBy sample (TooSmall (greatest_size lines)) options lines
  too_small sample rows sizes whole named =
      let first = greatest_size lines in
      refused_whole sample (TooSmall first) options lines whole (
        told_beside options lines (Some (TooSmall first)) free (some_beside options.form options.capacities first rows named),
        (sizes, refl, named_one options.capacities first named),
      )

-- of a whole log the greatest size is that of all lines
module _ {A : Type 0} (options : Options A) (lines : List (List ℕ)) where
  abbrev kept_keys : Sample → List (List ℕ)
  kept_keys sample = keys_of (kept_requests (kept_in sample) (requests_of lines))

  pub whole_first : (sample : Sample) → is_whole sample ≡ true → greatest_size (kept_keys sample) ≡ greatest_size (rests_of lines)
  whole_first Whole whole = ap greatest_size (whole_keys lines)
  whole_first (OneIn n) whole = absurd (cc whole)
  whole_first (Taken n all) whole = absurd (cc whole)

  pub small_alike : (sample : Sample) (first : ℕ) → first ≡ greatest_size (kept_keys sample)
      → (is_whole sample && names_below options.capacities first)
      ≡ (is_whole sample && names_below options.capacities (greatest_size (rests_of lines)))
  small_alike Whole first is = ap (names_below options.capacities) (is ∙ whole_first Whole refl)
  small_alike (OneIn n) first is = refl
  small_alike (Taken n all) first is = refl
