-- Where the lines of an input begin and end.
use Rattle.std.proofs.Common.{◌≡◌, ℕ, zero, suc, ◌+◌, ◌<◌, ◌≤◌, ◌-◌, Bool, true, false, cond, not, List, [], ◌∷◌, ◌++◌, None, Some, length, get_or, rules, take, drop, take-append-drop, drop-cons, length-append, length-drop, add-one, refl, sym, ap, ◌∙◌, arith}
use Rattle.std.specs.Prelude.{◌==◌, position}
use Rattle.std.proofs.Math.Seq.{take-append_seam, drop-append-add}
use Rattle.std.specs.List.{slice_split, position_or_len, before_first, after_first}
use Rattle.std.proofs.lemmas.Bool.Decides.{nat_tests}
use Rattle.std.proofs.lemmas.List.{take_all}
use Rattle.std.proofs.lemmas.List.Quantifiers.{position-Some}
use Rattle.std.proofs.lemmas.List.Sums.{fails_before_first, position_or_len_is}
use Rattle.std.proofs.lemmas.List.Splits.{slice_split_first, slice_split_none, length-slice_split}
use Rattle.clru_text.specs.Lines.{lines_of, lines_of_parts}
use Rattle.clru_text.specs.LinesRead.{IsFree}

-- a part with another one after it is a line
lines_of_parts-cons : (part : List ℕ) (parts : List (List ℕ)) → 0 < length parts
    → lines_of_parts (part ∷ parts) ≡ part ∷ lines_of_parts parts
lines_of_parts-cons part [] h = absurd (omega arith)
lines_of_parts-cons part (next ∷ more) h = refl

-- a last part with a byte is a line
lines_of_parts-one : (part : List ℕ) → 0 < length part → lines_of_parts (part ∷ []) ≡ part ∷ []
lines_of_parts-one [] h = absurd (omega arith)
lines_of_parts-one (b ∷ bs) h = refl

-- where `position` gives none, no element passes
position-None : {X : Type 0} (p : X → Bool) (xs : List X) → position p xs ≡ None → length xs ≤ position_or_len p xs
position-None p xs h = grind (arith, nat_tests)

-- the first element that passes is what `position` gives, and it gives none where all are before it
pub position-is : {X : Type 0} (p : X → Bool) (xs : List X) (at : ℕ) → position_or_len p xs ≡ at → at < length xs → position p xs ≡ Some at
position-is p xs at is within = grind (arith, nat_tests)

pub position-is_none : {X : Type 0} (p : X → Bool) (xs : List X) → length xs ≤ position_or_len p xs → position p xs ≡ None
position-is_none p xs past = grind (arith, nat_tests)

-- what stands behind the first elements tells of all, where none of these passes
pub position_behind : {X : Type 0} (p : X → Bool) (xs : List X) (start n : ℕ) → start ≤ length xs → length xs ≤ start + n
    → position_or_len p xs ≡ start + position_or_len p (drop start xs)
    → ((at : ℕ) → position p (take n (drop start xs)) ≡ Some at → position p xs ≡ Some (start + at)) × (position p (take n (drop start xs)) ≡ None → position p xs ≡ None)
position_behind p xs start n within all shift =
    let len : length (drop start xs) ≡ length xs - start = length-drop start xs in
    let same : take n (drop start xs) ≡ drop start xs = take_all n (drop start xs) (omega arith) in (
      (λ at h. let some : position p (drop start xs) ≡ Some at = rw (← same) h in position-is p xs (start + at) (grind (arith, nat_tests)) (grind (arith, nat_tests))),
      (λ h. let none : position p (drop start xs) ≡ None = rw (← same) h in let late = position-None p (drop start xs) none in position-is_none p xs (omega arith)),
    )

-- the first newline ends the first line
pub lines_of-at : (bytes : List ℕ) (at : ℕ) → position (λ b. b == 10) bytes ≡ Some at
    → lines_of bytes ≡ take at bytes ∷ lines_of (drop (at + 1) bytes)
lines_of-at bytes at h =
    let p : ℕ → Bool = λ b. b == 10 in
    let found = position-Some p bytes at 0 h in
    let first = position_or_len_is p bytes at 0 (omega arith) found.2 (λ _. found.1) in
    let rest = after_first p bytes in
    let some : 0 < length (slice_split p rest) = omega (arith, length-slice_split p rest) in
    ap lines_of_parts (slice_split_first p bytes 0 (omega (arith, first)))
    ∙ lines_of_parts-cons (before_first p bytes) (slice_split p rest) some
    ∙ ap (λ n. take n bytes ∷ lines_of (drop (n + 1) bytes)) first

-- the first newline has its line before it and the rest behind it
pub cut_at : (bytes : List ℕ) (at : ℕ) → position (λ b. b == 10) bytes ≡ Some at → bytes ≡ take at bytes ++ 10 ∷ drop (at + 1) bytes
cut_at bytes at h =
    let found = position-Some (λ b. b == 10) bytes at 0 h in
    let here : get_or bytes at 0 ≡ 10 = grind (arith, nat_tests, found.1) in
    sym (take-append-drop at bytes) ∙ ap (λ rest. take at bytes ++ rest) (rw (add-one, ← here) (drop-cons bytes at 0 found.0))

-- with no newline, all bytes are the last line
pub lines_of-last : (bytes : List ℕ) → position (λ b. b == 10) bytes ≡ None → 0 < length bytes → lines_of bytes ≡ bytes ∷ []
lines_of-last bytes h some =
    let p : ℕ → Bool = λ b. b == 10 in
    let late = position-None p bytes h in
    let fails : (k d : ℕ) → k < length bytes → p (get_or bytes k d) ≡ false =
    λ k d l. fails_before_first p bytes k d (omega arith) in
    ap lines_of_parts (slice_split_none p bytes (search (rules, fails))) ∙ lines_of_parts-one bytes some

-- the first element that passes is among the first n, or behind them
pub first_taken : {X : Type 0} (p : X → Bool) (xs : List X) (n : ℕ) → n ≤ length xs
    → (position_or_len p (take n xs) < n → position_or_len p xs ≡ position_or_len p (take n xs))
    × (n ≤ position_or_len p (take n xs) → position_or_len p xs ≡ n + position_or_len p (drop n xs))
first_taken p xs zero h = (λ l. absurd (omega arith), λ l. omega arith)
first_taken p [] (suc n) h = absurd (omega arith)
first_taken p (x ∷ xs) (suc n) h = step (p x) (first_taken p xs n (omega arith))
  where
    step : (t : Bool)
        → ((position_or_len p (take n xs) < n → position_or_len p xs ≡ position_or_len p (take n xs))
        × (n ≤ position_or_len p (take n xs) → position_or_len p xs ≡ n + position_or_len p (drop n xs)))
        → (cond (not t) (1 + position_or_len p (take n xs)) 0 < suc n → cond (not t) (1 + position_or_len p xs) 0 ≡ cond (not t) (1 + position_or_len p (take n xs)) 0)
        × (suc n ≤ cond (not t) (1 + position_or_len p (take n xs)) 0 → cond (not t) (1 + position_or_len p xs) 0 ≡ suc n + position_or_len p (drop n xs))
    step true rest = (λ l. refl, λ l. absurd (omega arith))
    step false rest = (λ l. omega (arith, rest.0 (omega arith)), λ l. omega (arith, rest.1 (omega arith)))

-- the newline of bytes with none before others is that of the others
abbrev first : List ℕ → ℕ
first bytes = position_or_len (λ b. b == 10) bytes

pub first-append : (piece rest : List ℕ) → IsFree piece → first (piece ++ rest) ≡ length piece + first rest
first-append [] rest free = omega arith
first-append (b ∷ piece) rest free = step (b == 10) free (first-append piece rest)
  where
    step : (t : Bool) → suc (length piece) ≤ cond (not t) (1 + first piece) 0
        → (IsFree piece → first (piece ++ rest) ≡ length piece + first rest)
        → cond (not t) (1 + first (piece ++ rest)) 0 ≡ suc (length piece) + first rest
    step true h more = absurd (omega arith)
    step false h more = omega (arith, more (omega arith))

pub free-append : (piece rest : List ℕ) → IsFree piece → IsFree rest → IsFree (piece ++ rest)
free-append piece rest free free' = omega (arith, first-append piece rest free, length-append piece rest, free')

-- there is none before the first
free-before : (bytes : List ℕ) (n : ℕ) → n ≤ first bytes → IsFree (take n bytes)
free-before [] n h = search rules
free-before (b ∷ bytes) zero h = search rules
free-before (b ∷ bytes) (suc n) h = step (b == 10) h (free-before bytes n)
  where
    step : (t : Bool) → suc n ≤ cond (not t) (1 + first bytes) 0 → (n ≤ first bytes → IsFree (take n bytes))
        → suc (length (take n bytes)) ≤ cond (not t) (1 + first (take n bytes)) 0
    step true h more = absurd (omega arith)
    step false h more = omega (arith, more (omega arith))

pub free-to : (bytes : List ℕ) (at : ℕ) → position (λ b. b == 10) bytes ≡ Some at → IsFree (take at bytes)
free-to bytes at h = let here : first bytes ≡ at = grind (arith, nat_tests) in free-before bytes at (omega (arith, here))

-- a newline ends what has none
pub lines_of-cut : (piece rest : List ℕ) → IsFree piece → lines_of (piece ++ 10 ∷ rest) ≡ piece ∷ lines_of rest
lines_of-cut piece rest free =
    let bytes = piece ++ 10 ∷ rest in
    let here : first bytes ≡ length piece = omega (arith, first-append piece (10 ∷ rest) free) in
    let inside : length piece < length bytes = omega (arith, length-append piece (10 ∷ rest)) in
    let at : position (λ b. b == 10) bytes ≡ Some (length piece) = grind (arith, nat_tests, here, inside) in
    lines_of-at bytes (length piece) at
    ∙ ap (λ l. l ∷ lines_of (drop (length piece + 1) bytes)) (take-append_seam piece (10 ∷ rest))
    ∙ ap (λ l. piece ∷ lines_of l) (drop-append-add piece (10 ∷ rest) 1)

-- what has none is one line
pub lines_of-free : (bytes : List ℕ) → IsFree bytes → 0 < length bytes → lines_of bytes ≡ bytes ∷ []
lines_of-free bytes free some =
    let none : position (λ b. b == 10) bytes ≡ None = grind (arith, nat_tests, free) in
    lines_of-last bytes none some

-- behind what has none, the first newline is that of the rest
pub position-behind : (piece rest : List ℕ) → IsFree piece
    → ((at : ℕ) → position (λ b. b == 10) rest ≡ Some at → position (λ b. b == 10) (piece ++ rest) ≡ Some (length piece + at))
    × (position (λ b. b == 10) rest ≡ None → position (λ b. b == 10) (piece ++ rest) ≡ None)
position-behind piece rest free =
    let p : ℕ → Bool = λ b. b == 10 in
    let shift = first-append piece rest free in
    let len = length-append piece rest in (
      (λ at h. let here : first rest ≡ at = grind (arith, nat_tests) in let found = position-Some p rest at 0 h in
          position-is p (piece ++ rest) (length piece + at) (omega (arith, shift, here)) (omega (arith, len, found.0))),
      (λ h. let late = position-None p rest h in position-is_none p (piece ++ rest) (omega (arith, late, shift, len))),
    )

pub free-none : (bytes : List ℕ) → position (λ b. b == 10) bytes ≡ None → IsFree bytes
free-none bytes h = position-None (λ b. b == 10) bytes h
