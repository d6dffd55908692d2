-- What is known of a reader whose lines are returned one by one.
use Rattle.std.proofs.Common.{◌≡◌, ℕ, ◌+◌, ◌<◌, List, [], ◌∷◌, ◌++◌, Option, append-nil, append_assoc, length, length-append, sym, ap, ◌∙◌, subst, arith}
use Rattle.std.proofs.KnownBytes.{Consumes-trans}
use Rattle.std.specs.Io.KnownBytes.{Consumes, IsAtEnd}
use Rattle.clru_text.specs.Lines.{lines_of}
use Rattle.clru_text.specs.LinesRead.{HasBegun, HasRead, IsFree}
use Rattle.clru_text.proofs.LineLemmas.{lines_of-cut, lines_of-free}

module _ (start now : Option (List ℕ)) (read : ℕ) (lines : List (List ℕ)) where
  -- more was read, of which no line is made yet
  pub begun_more : (next : Option (List ℕ)) (n : ℕ) (rest piece : List ℕ) → HasBegun start now read rest lines
      → Consumes now next piece → n ≡ read + length piece → HasBegun start next n (rest ++ piece) lines
  begun_more next n rest piece b given counted =
      let same = append_assoc b.line_bytes rest piece in
      record {
        line_bytes = b.line_bytes;
        bytes = subst (Consumes start next) same (Consumes-trans _ _ _ _ _ b.bytes given);
        count = omega (arith, counted, b.count, length-append (b.line_bytes ++ rest) piece, ap length same);
        cut = b.cut;
        few = b.few;
      }

  -- where no more was read, the rest stays
  pub begun_same : (next : Option (List ℕ)) (n : ℕ) (rest full : List ℕ) → HasBegun start now read rest lines
      → Consumes now next [] → n ≡ read → full ≡ rest → HasBegun start next n full lines
  begun_same next n rest full b given counted same =
      subst (λ l. HasBegun start next n l lines) (append-nil rest ∙ sym same) (begun_more next n rest [] b given (omega (arith, counted)))

  -- what has no newline is a line where one follows
  pub begun_line : (line rest : List ℕ) → IsFree line → HasBegun start now read (line ++ 10 ∷ rest) lines
      → HasBegun start now read rest (lines ++ line ∷ [])
  begun_line line rest free b =
      let whole = λ (more : List ℕ). append_assoc b.line_bytes (line ++ 10 ∷ []) more
      ∙ ap (λ l. b.line_bytes ++ l) (append_assoc line (10 ∷ []) more) in
      record {
        line_bytes = b.line_bytes ++ (line ++ 10 ∷ []);
        bytes = subst (Consumes start now) (sym (whole rest)) b.bytes;
        count = b.count ∙ ap length (sym (whole rest));
        cut = λ more. ap lines_of (whole more) ∙ b.cut (line ++ 10 ∷ more)
            ∙ ap (λ l. lines ++ l) (lines_of-cut line more free) ∙ sym (append_assoc lines (line ∷ []) (lines_of more));
        few = omega (
          arith,
          b.few,
          length-append lines (line ∷ []),
          length-append b.line_bytes (line ++ 10 ∷ []),
          length-append line (10 ∷ []),
        );
      }

  -- no newline follows
  pub read_last : (line : List ℕ) → IsFree line → 0 < length line → HasBegun start now read line lines → IsAtEnd now
      → HasRead start now read (lines ++ line ∷ [])
  read_last line free some b end =
      (b.line_bytes ++ line, b.bytes, end, (b.cut line ∙ ap (λ l. lines ++ l) (lines_of-free line free some), b.count))

  -- and no bytes make no line
  pub read_none : HasBegun start now read [] lines → IsAtEnd now → HasRead start now read lines
  read_none b end = (b.line_bytes ++ [], b.bytes, end, (b.cut [] ∙ append-nil lines, b.count))
