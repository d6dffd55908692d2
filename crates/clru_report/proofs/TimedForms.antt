-- From a text with these rows and numbers to the report under limits.
use Rattle.std.proofs.Common.{◌≡◌, ℕ, ◌-◌, ◌/◌, ◌^◌, false, List, refl, ap, ◌∙◌}
use Rattle.clru_text.specs.Samples.{times}
use Rattle.clru_text.specs.declared.options.Form.{Form}
use Rattle.clru_text.specs.declared.options.Form.TheVariants.{Table, Json, Picture, Summary}
use Rattle.clru_text.specs.declared.options.Options.{Options}
use Rattle.clru_report.specs.Capacities.{usual}
use Rattle.clru_report.specs.Faithful.{IsFaithful}
use Rattle.clru_report.specs.Passes.{IsTextByKeys}
use Rattle.clru_report.specs.Tables.{summary_text, table_text}
use Rattle.clru_report.specs.Timed.{AreRowsOn, IsInFormOn, knees_on}
use Rattle.clru_report.specs.declared.rows.Row.{Row}
use Rattle.clru_report.specs.declared.text.Counts.{Counts}

module _ {A : Type 0} (options : Options A) (m : ℕ → ℕ) (keys n : ℕ) (counts : Counts) (table : List ℕ) (shown : List Row) (text : List ℕ)
    (usual_is : IsFaithful m (counts.requests / n) (usual keys) table) (rowed : AreRowsOn options m keys n counts.requests table shown)
    (kinds : counts.distinct ≡ times n (2 ^ 64 - 1) keys) where
  pub form_on : (form : Form) → IsTextByKeys form false options.floor counts (knees_on options m keys n counts.requests table) shown text
      → IsInFormOn options m keys n counts.requests form counts.bytes text
  form_on Table t = (table, shown, usual_is, rowed, t)
  form_on Json t = (table, shown, usual_is, rowed, t)
  form_on Picture t = (
    table_text false false options.floor counts.requests (knees_on options m keys n counts.requests table) shown,
    (table, shown, usual_is, rowed, refl),
    t,
  )
  form_on Summary t = t ∙ ap (λ k. summary_text counts.requests k counts.bytes) kinds
