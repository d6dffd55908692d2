-- What `decimal` writes of a number, and where its line ends.
use Rattle.std.proofs.Common.{◌≡◌, ℕ, zero, suc, ◌+◌, ◌^◌, ◌<◌, ◌≤◌, Bool, true, false, ◌&&◌, List, [], ◌∷◌, ◌++◌, Some, length, get_or, take, drop, take-append-drop, drop-cons, length-append, add-one, refl, sym, ap, ◌∙◌, append_assoc, ◌-◌, arith}
use Rattle.std.specs.Prelude.{◌==◌, decimal, position}
use Rattle.std.specs.Char.{is_ascii_digit}
use Rattle.std.specs.List.{list_all, position_or_len}
use Rattle.std.specs.Str.{all_ascii_digits}
use Rattle.std.specs.Str.Parse.{digits_value}
use Rattle.std.proofs.Math.ListN.{get_or-append}
use Rattle.std.proofs.Math.Seq.{drop-append-add, get_or-append_seam, take-append_seam}
use Rattle.std.proofs.lemmas.Bool.{ne_eqb}
use Rattle.std.proofs.lemmas.Bool.Decides.{nat_tests}
use Rattle.std.proofs.lemmas.Fmt.{decimal-digits_value, decimal_digit, decimal_nonempty, digits_decimal, digits_value-decimal, first_decimal, length-decimal-le}
use Rattle.std.proofs.lemmas.List.{take_rest}
use Rattle.std.proofs.lemmas.List.Quantifiers.{position-Some}
use Rattle.std.proofs.lemmas.List.Sums.{position_or_len_is}
use Rattle.std.proofs.lemmas.Option.{same_Some}
use Rattle.std.proofs.lemmas.Str.Parse.{IsNumeralModel, not_in_digits, numerals_by_value, tells_all_ascii_digits}
use Rattle.clru_text.specs.Lines.{digits_named}
use Rattle.clru_parts.specs.Files.{has_leading_zero, number_line}

abbrev Digits : List ℕ → Type 0
Digits word = all_ascii_digits word ≡ true

own : IsNumeralModel Digits (digits_value 10)
own = numerals_by_value Digits tells_all_ascii_digits

all_digits : (word : List ℕ) → list_all is_ascii_digit word ≡ all_ascii_digits word
all_digits [] = refl
all_digits (c ∷ cs) = ap (λ t. is_ascii_digit c && t) (all_digits cs)

-- what a word of digits names
named_is : (word : List ℕ) (v : ℕ) → Some v ≡ digits_named word
    → (list_all is_ascii_digit word ≡ true) × (0 < length word) × (v ≡ digits_value 10 word)
named_is word v h = grind (arith, nat_tests)

named_all : (word : List ℕ) → list_all is_ascii_digit word ≡ true → 0 < length word → length word ≤ 20
    → digits_named word ≡ Some (digits_value 10 word)
named_all word digits some few = grind (arith, nat_tests)

-- digits without leading zeros are what `decimal` writes of their value
pub word-is : (word : List ℕ) (v : ℕ) → Some v ≡ digits_named word → v < 2 ^ 64
    → has_leading_zero word ≡ false → word ≡ decimal v
word-is word v h small lead =
    let is = named_is word v h in
    let digits : Digits word = sym (all_digits word) ∙ is.0 in
    let one : get_or word 0 0 ≡ 48 → length word ≡ 1 = λ lead_zero. grind (arith, nat_tests, lead, is.1) in
    let small' : digits_value 10 word < 2 ^ 64 = omega (arith, is.2) in
    sym (decimal-digits_value own word digits is.1 one small') ∙ ap decimal (sym is.2)

-- and such digits are read as the number
pub decimal-named : (n : ℕ) → n < 2 ^ 64 → digits_named (decimal n) ≡ Some n
decimal-named n small =
    let digits : list_all is_ascii_digit (decimal n) ≡ true = all_digits (decimal n) ∙ digits_decimal own n small in
    let few : length (decimal n) ≤ 20 = length-decimal-le 20 n (omega arith) (omega arith) small in
    named_all (decimal n) digits (decimal_nonempty n small) few ∙ ap Some (digits_value-decimal own n small)

decimal-lead : (n : ℕ) → n < 2 ^ 64 → 1 < length (decimal n) → get_or (decimal n) 0 0 ≡ 48 → ⊥
decimal-lead zero small long lead = omega (arith, ap length (decimal_digit 0 (omega arith)))
decimal-lead (suc n) small long lead = omega (arith, first_decimal (suc n) (omega arith) small)

lead_tested : (word : List ℕ) → (1 < length word → get_or word 0 0 ≡ 48 → ⊥) → has_leading_zero word ≡ false
lead_tested word h = grind (arith, nat_tests)

pub decimal-leading : (n : ℕ) → n < 2 ^ 64 → has_leading_zero (decimal n) ≡ false
decimal-leading n small = lead_tested (decimal n) (decimal-lead n small)

-- its line ends behind it
pub number_line-at : (n : ℕ) (rest : List ℕ) → n < 2 ^ 64 → position (λ b. b == 10) (decimal n ++ 10 ∷ rest) ≡ Some (length (decimal n))
number_line-at n rest small =
    let p : ℕ → Bool = λ b. b == 10 in
    let word = decimal n in
    let bytes : List ℕ = word ++ 10 ∷ rest in
    let within : length word < length bytes = omega (arith, length-append word (10 ∷ rest)) in
    let before : (k : ℕ) → k < length word → p (get_or bytes k 0) ≡ false =
    λ k l. ne_eqb _ 10 (λ e. not_in_digits own word 10 (digits_decimal own n small) (λ r. omega (arith, r.0)) k l (sym (get_or-append word (10 ∷ rest) 0 k l) ∙ e)) in
    let here : p (get_or bytes (length word) 0) ≡ true = ap p (get_or-append_seam word 10 rest 0) in
    let first : position_or_len p bytes ≡ length word = position_or_len_is p bytes (length word) 0 (omega arith) before (λ l. here) in
    grind (arith, nat_tests, first, within)

-- a newline has its line before it and the rest behind it
pub cut_at : (bytes : List ℕ) (at : ℕ) → position (λ b. b == 10) bytes ≡ Some at → bytes ≡ take at bytes ++ 10 ∷ drop (at + 1) bytes
cut_at bytes at h =
    let found = position-Some (λ b. b == 10) bytes at 0 h in
    let here : get_or bytes at 0 ≡ 10 = grind (arith, nat_tests, found.1) in
    sym (take-append-drop at bytes) ∙ ap (λ rest. take at bytes ++ rest) (rw (add-one, ← here) (drop-cons bytes at 0 found.0))

-- so a line of a number is read as it was written
pub line_read : (bytes : List ℕ) (at n : ℕ) → Some at ≡ position (λ b. b == 10) bytes → take at bytes ≡ decimal n
    → bytes ≡ number_line n ++ take (length bytes - (at + 1)) (drop (at + 1) bytes)
line_read bytes at n found word =
    let rest = drop (at + 1) bytes in
    cut_at bytes at (sym found)
    ∙ ap (λ w. w ++ 10 ∷ rest) word
    ∙ sym (append_assoc (decimal n) (10 ∷ []) rest)
    ∙ ap (λ r. number_line n ++ r) (sym (take_rest bytes (at + 1)))

pub line_at : (bytes : List ℕ) (n : ℕ) (rest : List ℕ) → n < 2 ^ 64 → bytes ≡ number_line n ++ rest
    → position (λ b. b == 10) bytes ≡ Some (length (decimal n))
line_at bytes n rest small is =
    ap (position (λ b. b == 10)) (is ∙ append_assoc (decimal n) (10 ∷ []) rest) ∙ number_line-at n rest small

pub line_whole : (bytes : List ℕ) (n : ℕ) (rest : List ℕ) → n < 2 ^ 64 → bytes ≡ number_line n ++ rest
    → (at : ℕ) → Some at ≡ position (λ b. b == 10) bytes
    → (take at bytes ≡ decimal n) × (take (length bytes - (at + 1)) (drop (at + 1) bytes) ≡ rest)
line_whole bytes n rest small is at found =
    let here : at ≡ length (decimal n) = same_Some _ _ (found ∙ line_at bytes n rest small is) in
    let cut : bytes ≡ decimal n ++ 10 ∷ rest = is ∙ append_assoc (decimal n) (10 ∷ []) rest in (
      ap (λ k. take k bytes) here ∙ ap (take (length (decimal n))) cut ∙ take-append_seam (decimal n) (10 ∷ rest),
      take_rest bytes (at + 1) ∙ ap (λ k. drop (k + 1) bytes) here ∙ ap (drop (length (decimal n) + 1)) cut
          ∙ drop-append-add (decimal n) (10 ∷ rest) 1,
    )
