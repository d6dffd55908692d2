-- From the marks of keys to the report of the lines that they stand for.
use Rattle.std.proofs.Common.{◌≡◌, ℕ, Bool, true, List, ◌∷◌, Some, None, map, sym, ap, ◌∙◌}
use Rattle.std.specs.Prelude.{bytes_eq}
use Rattle.std.specs.Str.Parse.{digits_value}
use Rattle.std.proofs.lemmas.Bool.{cond-true}
use Rattle.clru_model.specs.Requests.{marks, misses}
use Rattle.clru_model.proofs.Views.{same, marks-map, misses-map}
use Rattle.clru_text.specs.Lines.{is_capacity, lines_of}
use Rattle.clru_replay.specs.Report.{report, report_at, report_of_lines, text_of}

module _ {K : Type 0} (view : K → List ℕ) (keys : List K) (requests : List ℕ) (shown : map view keys ≡ lines_of requests) where
  -- the text for keys that show the requests is the text for the requests
  report_at-lines_of : (k : ℕ) (hits : List Bool) (n : ℕ) → hits ≡ marks (same bytes_eq view) k keys
      → n ≡ misses (same bytes_eq view) k keys
      → text_of hits n ≡ report_at k (lines_of requests)
  report_at-lines_of k hits n marked missed =
      ap (λ hs. text_of hs n) (marked ∙ sym (marks-map bytes_eq view k keys) ∙ ap (marks bytes_eq k) shown)
      ∙ ap (text_of (marks bytes_eq k (lines_of requests))) (missed ∙ sym (misses-map bytes_eq view k keys) ∙ ap (misses bytes_eq k) shown)

  -- and it is the report of an input that has the requests after its first line
  pub report-text : (input first : List ℕ) (k : ℕ) (hits : List Bool) (n : ℕ) (text : List ℕ)
      → lines_of input ≡ first ∷ lines_of requests → is_capacity first ≡ true → k ≡ digits_value 10 first
      → hits ≡ marks (same bytes_eq view) k keys → n ≡ misses (same bytes_eq view) k keys
      → text ≡ text_of hits n → report input ≡ Some text
  report-text input first k hits n text lines capacity value marked missed written =
      ap report_of_lines lines
      ∙ cond-true (is_capacity first) (Some (report_at (digits_value 10 first) (lines_of requests))) None capacity
      ∙ ap (λ d. Some (report_at d (lines_of requests))) (sym value)
      ∙ ap Some (sym (written ∙ report_at-lines_of k hits n marked missed))
