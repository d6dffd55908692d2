-- What two reads, or two writes, one after the other do to known bytes.
use Rattle.std.proofs.Common.{◌≡◌, ℕ, ◌+◌, List, ◌++◌, Option, Result, Ok, Err, IfErr, sym, ap, subst, ◌∙◌, append_assoc, take, drop, length, take-append-drop}
use Rattle.std.proofs.Math.Seq.{take-add, take-append_seam}
use Rattle.std.proofs.KnownBytes.{Consumes-trans}
use Rattle.std.specs.Io.KnownBytes.{Appends, Consumes}

-- the front of a buffer was consumed, and then what was read after it
pub Consumes-more : (a b c : Option (List ℕ)) (old new : List ℕ) (filled count : ℕ) → take filled new ≡ take filled old
    → Consumes a b (take filled old) → Consumes b c (take count (drop filled new)) → Consumes a c (take (filled + count) new)
Consumes-more a b c old new filled count kept first second =
    subst (Consumes a c) (ap (λ front. front ++ take count (drop filled new)) (sym kept) ∙ sym (take-add filled count new))
    (Consumes-trans a b c _ _ first second)

-- a text is what was written of it, with what a write took of the rest, and what is then left
pub text-more : (text written left : List ℕ) (count : ℕ) → text ≡ written ++ left → text ≡ (written ++ take count left) ++ drop count left
text-more text written left count whole =
    whole ∙ ap (λ rest. written ++ rest) (sym (take-append-drop count left)) ∙ sym (append_assoc written (take count left) (drop count left))

-- what was written is a beginning of the text
pub Appends-beginning : (a b : Option (List ℕ)) (text written left : List ℕ) → text ≡ written ++ left → Appends a b written
    → (n : ℕ) × Appends a b (take n text)
Appends-beginning a b text written left whole appended =
    (length written, subst (Appends a b) (sym (ap (take (length written)) whole ∙ take-append_seam written left)) appended)

-- what is known whatever the answer is known of an error
pub IfErr-known : {T E X : Type 0} (r : Result T E) → X → IfErr r (λ _. X)
IfErr-known (Ok _) x = search
IfErr-known (Err _) x = x
