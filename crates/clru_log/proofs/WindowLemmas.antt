-- Parts of a buffer.
use Rattle.std.proofs.Common.{◌≡◌, ℕ, ◌+◌, ◌-◌, ◌≤◌, List, ◌++◌, take, drop, slice_range, drop-drop, sym, ap, ◌∙◌, arith}
use Rattle.std.proofs.lemmas.List.{drop-take, take-take}
use lib.Seq.{take-add}

-- a part whose first bytes are let go
pub consumed : (xs : List ℕ) (start end count : ℕ) → start + count ≤ end
    → slice_range xs (start + count) end ≡ drop count (slice_range xs start end)
consumed xs start end count inside =
    let parts : end - start ≡ count + (end - (start + count)) = omega arith in
    sym (ap (λ j. drop count (take j (drop start xs))) parts ∙ drop-take count _ (drop start xs)
    ∙ ap (take (end - (start + count))) (drop-drop count start xs))

-- a part is its beginning and its end
pub parted : (xs : List ℕ) (start at end : ℕ) → start ≤ at → at ≤ end
    → slice_range xs start end ≡ slice_range xs start at ++ slice_range xs at end
parted xs start at end before behind =
    let parts : end - start ≡ (at - start) + (end - at) = omega arith in
    let place : start + (at - start) ≡ at = omega arith in
    ap (λ j. take j (drop start xs)) parts ∙ take-add (at - start) (end - at) (drop start xs)
    ∙ ap (λ l. slice_range xs start at ++ take (end - at) l) (drop-drop (at - start) start xs ∙ ap (λ j. drop j xs) place)

-- a part of the first bytes
pub within_first : (xs ys : List ℕ) (most start end : ℕ) → take most ys ≡ take most xs → start ≤ end → end ≤ most
    → slice_range ys start end ≡ slice_range xs start end
within_first xs ys most start end same ordered inside =
    let at : start + (end - start) ≡ end = omega arith in
    let of : (l : List ℕ) → slice_range l start end ≡ drop start (take end (take most l)) = λ l.
    sym (ap (drop start) (take-take end most l inside) ∙ ap (λ j. drop start (take j l)) (sym at) ∙ drop-take start (end - start) l) in
    of ys ∙ ap (λ l. drop start (take end l)) same ∙ sym (of xs)

-- what is read behind a part
pub grown : (xs ys : List ℕ) (start end count : ℕ) → take end ys ≡ take end xs → start ≤ end
    → slice_range ys start (end + count) ≡ slice_range xs start end ++ take count (drop end ys)
grown xs ys start end count same ordered =
    let len : end + count - end ≡ count = omega arith in
    parted ys start end (end + count) ordered (omega arith)
    ∙ ap (λ l. l ++ slice_range ys end (end + count)) (within_first xs ys end start end same ordered (omega arith))
    ∙ ap (λ j. slice_range xs start end ++ take j (drop end ys)) len
