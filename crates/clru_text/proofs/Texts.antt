-- Lines as bytes, and these as lines.
use Rattle.std.proofs.Common.{◌≡◌, ℕ, false, List, [], ◌∷◌, ◌++◌, Some, refl, sym, ap, ◌∙◌, subst, append_assoc, append-nil, arith}
use Rattle.std.proofs.lemmas.Bool.Decides.{nat_tests}
use Rattle.std.specs.Prelude.{◌==◌}
use Rattle.std.specs.List.{AllByRecursion, onto_first, slice_split}
use Rattle.clru_model.proofs.Cases.{split}
use Rattle.clru_text.proofs.LineLemmas.{lines_of-cut}
use Rattle.clru_text.specs.Lines.{lines_of, lines_of_parts, unless_empty}
use Rattle.clru_text.specs.LinesRead.{IsFree}
use Rattle.clru_text.specs.Texts.{bytes_of}
use Rattle.clru_text.specs.Whole.{ReadWhole}

free-cons : (b : ℕ) (bytes : List ℕ) → b == 10 ≡ false → IsFree bytes → IsFree (b ∷ bytes)
free-cons b bytes other free = rw other (omega (arith, free))

free_onto_first : (b : ℕ) (parts : List (List ℕ)) → b == 10 ≡ false → AllByRecursion IsFree parts → AllByRecursion IsFree (onto_first b parts)
free_onto_first b [] other all = (free-cons b [] other (omega arith), tt)
free_onto_first b (part ∷ parts) other all = (free-cons b part other all.0, all.1)

free_parts : (bytes : List ℕ) → AllByRecursion IsFree (slice_split (λ b. b == 10) bytes)
free_parts [] = (omega arith, tt)
free_parts (b ∷ bytes) =
    let ih = free_parts bytes in
    split (b == 10)
    (λ t. rw t (omega arith, ih))
    (λ f. rw f (free_onto_first b (slice_split (λ b. b == 10) bytes) f ih))

free_of_parts : (parts : List (List ℕ)) → AllByRecursion IsFree parts → AllByRecursion IsFree (lines_of_parts parts)
free_of_parts [] all = tt
free_of_parts (part ∷ []) all = last part all.0
  where
    last : (part : List ℕ) → IsFree part → AllByRecursion IsFree (unless_empty part)
    last [] free = tt
    last (b ∷ bs) free = (free, tt)
free_of_parts (part ∷ next ∷ more) all = (all.0, free_of_parts (next ∷ more) all.1)

-- no line has a newline
pub free_lines : (bytes : List ℕ) → AllByRecursion IsFree (lines_of bytes)
free_lines bytes = free_of_parts (slice_split (λ b. b == 10) bytes) (free_parts bytes)

-- the bytes of lines have these lines
pub lines_of-bytes_of : (lines : List (List ℕ)) → AllByRecursion IsFree lines → lines_of (bytes_of lines) ≡ lines
lines_of-bytes_of [] free = refl
lines_of-bytes_of (line ∷ lines) free = lines_of-cut line (bytes_of lines) free.0 ∙ ap (λ l. line ∷ l) (lines_of-bytes_of lines free.1)

pub bytes_of-append : (xs ys : List (List ℕ)) → bytes_of (xs ++ ys) ≡ bytes_of xs ++ bytes_of ys
bytes_of-append [] ys = refl
bytes_of-append (x ∷ xs) ys = ap (λ l. x ++ 10 ∷ l) (bytes_of-append xs ys) ∙ sym (append_assoc x (10 ∷ bytes_of xs) (bytes_of ys))

free_more : (p : List ℕ) (b : ℕ) → b == 10 ≡ false → IsFree p → IsFree (p ++ b ∷ [])
free_more [] b other free = free-cons b [] other (omega arith)
free_more (c ∷ p) b other free = split (c == 10)
    (λ t. absurd (omega (arith, rw t at free)))
    (λ f. free-cons c (p ++ b ∷ []) f (free_more p b other (omega (arith, rw f at free))))

-- the bytes `p` are what was met of a line
cut_in_line : (p one two : List ℕ) → IsFree p → lines_of (p ++ (one ++ 10 ∷ two)) ≡ lines_of (p ++ (one ++ 10 ∷ [])) ++ lines_of two
cut_in_line p [] two free = lines_of-cut p two free ∙ sym (ap (λ l. l ++ lines_of two) (lines_of-cut p [] free))
cut_in_line p (b ∷ one) two free = split (b == 10)
    (λ t. let is : b ≡ 10 = grind (arith, nat_tests, t) in
    ap (λ n. lines_of (p ++ n ∷ (one ++ 10 ∷ two))) is
    ∙ lines_of-cut p (one ++ 10 ∷ two) free
    ∙ ap (λ l. p ∷ l) (cut_in_line [] one two (omega arith))
    ∙ sym (ap (λ l. l ++ lines_of two) (ap (λ n. lines_of (p ++ n ∷ (one ++ 10 ∷ []))) is ∙ lines_of-cut p (one ++ 10 ∷ []) free)))
    (λ f. ap lines_of (sym (append_assoc p (b ∷ []) (one ++ 10 ∷ two)))
    ∙ cut_in_line (p ++ b ∷ []) one two (free_more p b f free)
    ∙ ap (λ l. lines_of l ++ lines_of two) (append_assoc p (b ∷ []) (one ++ 10 ∷ [])))

-- a cut behind a newline is between lines
pub cut_behind_newline : (one two : List ℕ) → lines_of ((one ++ 10 ∷ []) ++ two) ≡ lines_of (one ++ 10 ∷ []) ++ lines_of two
cut_behind_newline one two = ap lines_of (append_assoc one (10 ∷ []) two) ∙ cut_in_line [] one two (omega arith)

-- bytes that were read to their end are the input
pub whole_read : (bytes left : List ℕ) (P : List ℕ → Type 0) → ReadWhole (Some bytes) (Some left) P → P bytes
whole_read bytes left P read = subst P (sym (read.1 ∙ ap (λ l. read.0 ++ l) read.2 ∙ append-nil read.0)) read.3
