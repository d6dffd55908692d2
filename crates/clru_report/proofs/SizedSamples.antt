-- Of lines of which some are kept, and of the curve of the kept ones: one more line, and the report.
use Rattle.std.proofs.Common.{◌≡◌, ℕ, ◌+◌, ◌-◌, ◌/◌, ◌^◌, nat_le, Bool, false, true, Option, None, Some, List, [], ◌∷◌, ◌++◌, append_assoc, append-nil, IsSome, map, min, length, reverse, refl, sym, ap, ◌∙◌, subst, arith}
use Rattle.std.specs.Prelude.{◌&&◌, bytes_eq}
use Rattle.std.specs.List.{filter}
use Rattle.std.proofs.lemmas.List.Elements.{All-nil, All-push, All-weaker}
use Rattle.std.proofs.lemmas.List.{length-append}
use Rattle.std.proofs.lemmas.List.Sums.{sum_by-append, sum_by-cons}
use Rattle.clru_curve.specs.SizedCurves.{CurveBySize, IsSizedCurveOf}
use Rattle.clru_model.specs.Requests.{distinct}
use Rattle.clru_text.specs.Samples.{times}
use Rattle.clru_text.specs.Sizes.{size_of_line, weight_of_line}
use Rattle.clru_text.specs.declared.fault.Fault.{Fault}
use Rattle.clru_text.specs.declared.options.Form.{Form}
use Rattle.clru_text.specs.declared.options.Form.TheVariants.{Table, Json, Picture, Summary}
use Rattle.clru_text.specs.declared.options.Options.{Options}
use Rattle.clru_text.proofs.Samples.{all_kept}
use Rattle.clru_report.specs.LineFaults.{fault_from}
use Rattle.clru_report.specs.Passes.{AreFloorsFor, AreRowsOf, IsOfLines, IsRowOf, IsSizedCurveOfKept, capacities_on, distinct_in, has_rows}
use Rattle.clru_report.specs.SampleTables.{IsSampledTable, IsSampledText}
use Rattle.clru_report.specs.SizedLines.{AddUpTo, HaveFault}
use Rattle.clru_report.specs.SizedReport.{AreSizedRows, IsInFormBySizeOfSample, IsSizedRow, IsSizedTableOfSample, distinct_size, sized_capacities_of_sample, summary_by_size_of_sample}
use Rattle.clru_report.specs.SizedTables.{sized_summary_text, sized_table_text}
use Rattle.clru_report.specs.Sizes.{greatest_size, size_of_lines}
use Rattle.clru_report.specs.declared.sized.floors.Floors.{Floors}
use Rattle.clru_report.specs.declared.sized.rows.SizedRow.{SizedRow}
use Rattle.clru_report.proofs.SizedReports.{capacities_are, distinct_are, greatest_is, row_is, usual_is}

-- a sample of one in one is the curve of all lines
pub of_all : (input : List ℕ) (lines : List (List ℕ)) (curve : CurveBySize) (requests size bytes : ℕ)
    → IsSizedCurveOfKept 1 input lines curve requests size bytes → IsSizedCurveOf bytes_eq weight_of_line lines curve
of_all input lines curve requests size bytes of =
    subst (λ ls. IsSizedCurveOf bytes_eq weight_of_line ls curve) (all_kept lines) of.of_kept

-- the size of one more line is added to that of those before it
pub size_more : (lines rest : List (List ℕ)) (line : List ℕ)
    → size_of_lines (lines ++ line ∷ rest) ≡ size_of_lines lines + (1 + weight_of_line line) + size_of_lines rest
size_more lines rest line = omega (
  arith,
  sum_by-append (λ x. 1 + weight_of_line x) lines (line ∷ rest),
  sum_by-cons (λ x. 1 + weight_of_line x) line rest,
)

pub added_none : AddUpTo [] 0
added_none = record { sizes = All-nil (λ line. IsSome (size_of_line line)); summed = refl; faults = λ rest. refl }

module _ (lines : List (List ℕ)) (size : ℕ) (added : AddUpTo lines size) where
  -- one more line, which has a size
  pub added_more : (line : List ℕ) (more : ℕ) → IsSome (size_of_line line) → more ≡ size + (1 + weight_of_line line)
      → ((rest : List (List ℕ)) → fault_from (length lines + 1) size (line ∷ rest) ≡ fault_from (length lines + 1 + 1) more rest)
      → AddUpTo (lines ++ line ∷ []) more
  added_more line more sized sum on = record {
    sizes = All-push (λ l. IsSome (size_of_line l)) lines line added.sizes sized;
    summed = omega (arith, sum, added.summed, size_more lines [] line);
    faults = λ rest. ap (fault_from 1 0) (append_assoc lines (line ∷ []) rest) ∙ added.faults (line ∷ rest) ∙ on rest
        ∙ ap (λ k. fault_from (k + 1) more rest) (sym (length-append lines (line ∷ [])));
  }

  -- or one with a fault, whatever follows
  pub added_refused : (fault : Fault) (line : List ℕ) (rest : List (List ℕ)) → IsOfLines fault (lines ++ line ∷ rest)
      → fault_from (length lines + 1) size (line ∷ rest) ≡ Some fault → HaveFault (lines ++ line ∷ rest) fault
  added_refused fault line rest of next = (of, added.faults (line ∷ rest) ∙ next)

  -- all of them have none
  pub added_free : fault_from 1 0 lines ≡ None
  added_free = ap (fault_from 1 0) (sym (append-nil lines)) ∙ added.faults []

module _ (kept : List (List ℕ)) (curve : CurveBySize) (is : IsSizedCurveOf bytes_eq weight_of_line kept curve) where
  -- the capacities that the curve answers are those at which kept lines have rows
  rows_kept : {A : Type 0} (options : Options A) (floors : Option (Floors A)) (requests size : ℕ) (table : List ℕ) (rows : List SizedRow)
      → AreFloorsFor options.floor kept floors
      → AreRowsOf curve floors (filter (λ c. nat_le (1 + curve.greatest_weight) c) (capacities_on curve options.capacities requests size table)) rows
      → AreSizedRows kept options.floor (sized_capacities_of_sample options requests size kept table) rows
  rows_kept options floors requests size table rows both t = (
    t.0 ∙ ap (λ g. filter (λ c. nat_le g c) (capacities_on curve options.capacities requests size table)) (greatest_is kept curve is)
        ∙ ap (filter (λ c. nat_le (greatest_size kept) c)) (capacities_are kept curve is options.capacities requests size table),
    All-weaker (IsRowOf curve floors) (IsSizedRow kept options.floor) (row_is kept curve is options.floor floors both) rows t.1,
  )

  summary_kept : (input text : List ℕ) (n all size bytes : ℕ) → text ≡ sized_summary_text all
      (times n (2 ^ 64 - 1) (distinct_in curve)) bytes size (times n (2 ^ 64 - 1) curve.distinct_size)
      (min (1 + curve.greatest_weight) curve.distinct_size)
      → bytes ≡ length input → text ≡ summary_by_size_of_sample input n all size kept
  summary_kept input text n all size bytes t in_bytes =
      let most = 2 ^ 64 - 1 in
      t ∙ ap (λ k. sized_summary_text all (times n most k) bytes size (times n most curve.distinct_size)
      (min (1 + curve.greatest_weight) curve.distinct_size)) (distinct_are kept curve is)
      ∙ ap (λ k. sized_summary_text all (times n most (distinct bytes_eq (reverse kept))) k size (times n most curve.distinct_size)
      (min (1 + curve.greatest_weight) curve.distinct_size)) in_bytes
      ∙ ap (λ k. sized_summary_text all (times n most (distinct bytes_eq (reverse kept))) (length input) size (times n most k)
      (min (1 + curve.greatest_weight) k)) is.distinct_size
      ∙ ap (λ k. sized_summary_text all (times n most (distinct bytes_eq (reverse kept))) (length input) size
      (times n most (distinct_size kept)) (min k (distinct_size kept))) (greatest_is kept curve is)

  -- the text of the curve is that of the kept lines
  module _ {A : Type 0} (options : Options A) (floors : Option (Floors A)) (n all size : ℕ) where
    sampled_table : (json : Bool) (text : List ℕ) → AreFloorsFor options.floor kept floors
        → IsSampledTable curve floors options n all size json text → IsSizedTableOfSample options n all size kept json text
    sampled_table json text both t =
        let usual = usual_is kept curve is (size / n) t.table t.marked t.usual in (
          t.table,
          t.shown,
          usual.0,
          (t.rowed.0, rows_kept options floors (all / n) (size / n) t.table t.rowed.0 both t.rowed.1, t.rowed.2),
          t.is ∙ ap (λ ks. sized_table_text json options.floor all size (map (times n (2 ^ 64 - 1)) ks) t.shown) usual.1,
        )

    pub sampled_form : (form : Form) (input text : List ℕ) (bytes : ℕ) → AreFloorsFor (has_rows form && options.floor) kept floors
        → bytes ≡ length input → IsSampledText curve floors options n all size form bytes text
        → IsInFormBySizeOfSample options n all size kept form input text
    sampled_form Table input text bytes both in_bytes t = sampled_table false text both t
    sampled_form Json input text bytes both in_bytes t = sampled_table true text both t
    sampled_form Picture input text bytes both in_bytes t = (t.0, sampled_table false t.0 both t.1, t.2)
    sampled_form Summary input text bytes both in_bytes t = summary_kept input text n all size bytes t in_bytes
