-- What is cut of an input, line by line.
use Rattle.std.proofs.Common.{◌≡◌, ℕ, ◌+◌, ◌<◌, List, [], ◌∷◌, ◌++◌, Result, Ok, Err, Some, length, take, drop, append-nil, append_assoc, refl, sym, ap, ◌∙◌}
use Rattle.std.specs.Prelude.{◌==◌, position}
use Rattle.clru_text.specs.Lines.{lines_of}
use Rattle.clru_text.specs.LinesRead.{IsFree}
use Rattle.clru_text.specs.Texts.{bytes_of}
use Rattle.clru_log.specs.declared.cut.Left.{Left}
use Rattle.clru_log.specs.declared.format.Format.{Format}
use Rattle.clru_log.specs.declared.format.Wanted.{Wanted}
use Rattle.clru_log.specs.Cuts.{cut, cut_bytes, kept_bytes, line_of}
use Rattle.clru_log.proofs.LineLemmas.{cut_at, free-to, lines_of-cut, lines_of-free}

module _ {A : Type 0} (format : Format A) (wanted : Wanted) where
  -- the first line's part stands in front
  first_part : (line : List ℕ) (lines : List (List ℕ)) (r : Result (List ℕ) Left) → line_of format wanted line ≡ r
      → bytes_of (cut format wanted (line ∷ lines)) ≡ kept_bytes r ++ bytes_of (cut format wanted lines)
  first_part line lines (Ok plain) is = rw is (sym (append_assoc plain (10 ∷ []) (bytes_of (cut format wanted lines))))
  first_part line lines (Err why) is = rw is refl

  pub cut_bytes-line : (line rest : List ℕ) → IsFree line
      → cut_bytes format wanted (line ++ 10 ∷ rest) ≡ kept_bytes (line_of format wanted line) ++ cut_bytes format wanted rest
  cut_bytes-line line rest free = ap (λ ls. bytes_of (cut format wanted ls)) (lines_of-cut line rest free)
      ∙ first_part line (lines_of rest) (line_of format wanted line) refl

  pub cut_bytes-last : (line : List ℕ) → IsFree line → 0 < length line
      → cut_bytes format wanted line ≡ kept_bytes (line_of format wanted line)
  cut_bytes-last line free some = ap (λ ls. bytes_of (cut format wanted ls)) (lines_of-free line free some)
      ∙ first_part line [] (line_of format wanted line) refl ∙ append-nil (kept_bytes (line_of format wanted line))

  pub cut_bytes-none : cut_bytes format wanted [] ≡ []
  cut_bytes-none = refl

  -- what is cut of the first line comes behind what was cut
  pub cut_first : (output input more : List ℕ) (at : ℕ) → position (λ b. b == 10) input ≡ Some at
      → (output ++ kept_bytes (line_of format wanted (take at input))) ++ cut_bytes format wanted (drop (at + 1) input ++ more)
      ≡ output ++ cut_bytes format wanted (input ++ more)
  cut_first output input more at h =
      let line = take at input in let rest = drop (at + 1) input in
      append_assoc output (kept_bytes (line_of format wanted line)) (cut_bytes format wanted (rest ++ more))
      ∙ ap (λ l. output ++ l) (sym (cut_bytes-line line (rest ++ more) (free-to input at h))
      ∙ ap (cut_bytes format wanted) (sym (ap (λ l. l ++ more) (cut_at input at h) ∙ append_assoc line (10 ∷ rest) more)))

  -- and so does the last one
  pub cut_rest : (output input : List ℕ) → IsFree input → 0 < length input
      → output ++ kept_bytes (line_of format wanted input) ≡ output ++ cut_bytes format wanted (input ++ [])
  cut_rest output input free some =
      ap (λ l. output ++ l) (sym (ap (cut_bytes format wanted) (append-nil input) ∙ cut_bytes-last input free some))

  pub cut_none : (output input : List ℕ) → input ≡ [] → output ≡ output ++ cut_bytes format wanted (input ++ [])
  cut_none output input none = rw none (sym (append-nil output))
