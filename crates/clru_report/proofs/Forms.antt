-- From a text with these rows and numbers to the report of the lines that they are of.
use Rattle.std.proofs.Common.{◌≡◌, ℕ, ◌-◌, ◌/◌, ◌^◌, Bool, false, true, List, length, reverse, refl, ap, subst, ◌∙◌}
use Rattle.std.specs.Prelude.{◌&&◌, bytes_eq}
use Rattle.clru_model.specs.Requests.{distinct}
use Rattle.clru_text.specs.Lines.{lines_of}
use Rattle.clru_text.specs.Samples.{times}
use Rattle.clru_text.specs.declared.options.Form.{Form}
use Rattle.clru_text.specs.declared.options.Form.TheVariants.{Table, Json, Picture, Summary}
use Rattle.clru_text.specs.declared.options.Options.{Options}
use Rattle.clru_report.specs.Knees.{knees}
use Rattle.clru_report.specs.Passes.{IsTextByKeys, has_rows}
use Rattle.clru_report.specs.Report.{AreRows, AreRowsOfSample, IsInForm, IsInFormOfSample, IsUsualTable, capacities_asked, knees_of_sample, misses_of}
use Rattle.clru_report.specs.Tables.{summary_text, table_text}
use Rattle.clru_report.specs.declared.rows.Row.{Row}
use Rattle.clru_report.specs.declared.text.Counts.{Counts}

module _ {A : Type 0} (options : Options A) (input : List ℕ) where
  abbrev lines : List (List ℕ)
  lines = lines_of input

  module _ (counts : Counts) (table ks : List ℕ) (rows : List Row) (text : List ℕ) (usual : IsUsualTable counts.requests lines table)
      (marked : ks ≡ knees (misses_of lines) counts.requests table) (counted : counts.requests ≡ length lines) where
    tabled : (json : Bool) → table_text json options.least options.floor counts.requests ks rows
        ≡ table_text json options.least options.floor (length lines) (knees (misses_of lines) (length lines) table) rows
    tabled json =
        ap (λ k. table_text json options.least options.floor counts.requests k rows) marked
        ∙ ap (λ n. table_text json options.least options.floor n (knees (misses_of lines) n table) rows) counted

    pub form_of_all : (form : Form) → IsTextByKeys form options.least options.floor counts ks rows text
        → AreRows bytes_eq lines (has_rows form && options.least) (has_rows form && options.floor) (capacities_asked options (length lines) lines table) rows
        → counts.distinct ≡ distinct bytes_eq (reverse lines) → counts.bytes ≡ length input
        → IsInForm form options input text
    form_of_all Table t rowed kinds in_bytes =
        (table, rows, subst (λ n. IsUsualTable n lines table) counted usual, rowed, t ∙ tabled false)
    form_of_all Json t rowed kinds in_bytes = (table, rows, subst (λ n. IsUsualTable n lines table) counted usual, rowed, t ∙ tabled true)
    form_of_all Picture t rowed kinds in_bytes = (
      table_text false options.least options.floor counts.requests ks rows,
      (table, rows, subst (λ n. IsUsualTable n lines table) counted usual, rowed, tabled false),
      t,
    )
    form_of_all Summary t rowed kinds in_bytes =
        t ∙ ap (λ n. summary_text n counts.distinct counts.bytes) counted
        ∙ ap (λ n. summary_text (length lines) n counts.bytes) kinds
        ∙ ap (summary_text (length lines) (distinct bytes_eq (reverse lines))) in_bytes

  pub form_of_sample : (n : ℕ) (kept : List (List ℕ)) (form : Form) (counts : Counts) (table : List ℕ) (rows : List Row) (text : List ℕ)
      → IsUsualTable (counts.requests / n) kept table
      → IsTextByKeys form false options.floor counts (knees_of_sample n counts.requests kept table) rows text
      → AreRowsOfSample options (has_rows form && options.floor) n counts.requests kept table rows
      → counts.distinct ≡ times n (2 ^ 64 - 1) (distinct bytes_eq (reverse kept)) → counts.bytes ≡ length input
      → IsInFormOfSample form options n counts.requests kept input text
  form_of_sample n kept Table counts table rows text usual t rowed kinds in_bytes = (table, rows, usual, rowed, t)
  form_of_sample n kept Json counts table rows text usual t rowed kinds in_bytes = (table, rows, usual, rowed, t)
  form_of_sample n kept Picture counts table rows text usual t rowed kinds in_bytes = (
    table_text false false options.floor counts.requests (knees_of_sample n counts.requests kept table) rows,
    (table, rows, usual, rowed, refl),
    t,
  )
  form_of_sample n kept Summary counts table rows text usual t rowed kinds in_bytes =
      t ∙ ap (λ k. summary_text counts.requests k counts.bytes) kinds
      ∙ ap (summary_text counts.requests (times n (2 ^ 64 - 1) (distinct bytes_eq (reverse kept)))) in_bytes
