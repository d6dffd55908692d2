-- Decimals of a second, in millionths.
use Rattle.std.proofs.Common.{◌≡◌, ℕ, ◌+◌, ◌-◌, ◌*◌, ◌^◌, ◌<◌, ◌≤◌, true, List, [], ◌∷◌, Some, length, subst, ap, ◌∙◌, arith, lit<}
use Rattle.std.specs.Prelude.{nat_le, nat_lt, ◌&&◌}
use Rattle.std.specs.Char.{digit_value, is_ascii_digit}
use Rattle.std.specs.List.{list_all}
use Rattle.std.specs.Str.Parse.{AllDigits, digits_value}
use Rattle.std.proofs.Math.Nat.{one-le-pow}
use Rattle.std.proofs.lemmas.Bool.{and_parts, leb-false, leb-true}
use Rattle.std.proofs.lemmas.Int.Digits.{digits_value-lt}
use Rattle.std.proofs.lemmas.Nat.{div_below, mul-le, pow-add}
use Rattle.std.proofs.lemmas.Option.{cond_some}
use Rattle.std.proofs.lemmas.Str.{digit_value_digit}
use Rattle.clru_model.proofs.Cases.{split}
use Rattle.clru_text.specs.Lines.{are_digits, digits_named}
use Rattle.clru_text.specs.Times.{millionths_of}

each_digit : (ds : List ℕ) → list_all is_ascii_digit ds ≡ true → AllDigits 10 ds
each_digit [] all = tt
each_digit (d ∷ ds) all =
    let parts = and_parts (is_ascii_digit d) (list_all is_ascii_digit ds) all in
    let range = and_parts (nat_le 48 d) (nat_le d 57) parts.0 in
    let low : 48 ≤ d = leb-true 48 d range.0 in let high : d ≤ 57 = leb-true d 57 range.1 in
    let value : digit_value d + 48 ≡ d = digit_value_digit d (low, high) in
    (omega (arith, value, high), each_digit ds parts.1)

-- so many digits name a number below that power of ten
pub named_below : (ds : List ℕ) (n : ℕ) → digits_named ds ≡ Some n → n < 10 ^ length ds
named_below ds n named =
    let found = cond_some (are_digits ds) (digits_value 10 ds) n named in
    let tests = and_parts (nat_lt 0 (length ds)) (nat_le (length ds) 20 && list_all is_ascii_digit ds) found.0 in
    let all = (and_parts (nat_le (length ds) 20) (list_all is_ascii_digit ds) tests.1).1 in
    subst (λ m. m < 10 ^ length ds) found.1 (digits_value-lt 10 ds (each_digit ds all))

-- and decimals are less than a second
pub below_a_second : (part places : ℕ) → part < 10 ^ places → millionths_of part places < 10 ^ 6
below_a_second part places less = split (nat_le places 6)
    (λ few.
    let up : places ≤ 6 = leb-true places 6 few in
    let all : 6 ≡ places + (6 - places) = omega arith in
    let whole : 10 ^ 6 ≡ 10 ^ places * 10 ^ (6 - places) = ap (λ n. 10 ^ n) all ∙ pow-add 10 places (6 - places) in
    let some : 1 ≤ 10 ^ (6 - places) = one-le-pow (6 - places) 10 (lit< tt) in
    let most : (part + 1) * 10 ^ (6 - places) ≤ 10 ^ places * 10 ^ (6 - places) = mul-le (part + 1) (10 ^ (6 - places)) (10 ^ places) (10 ^ (6 - places)) (omega arith) (omega arith) in
    rw few (omega (arith, whole, some, most)))
    (λ many.
    let down : 6 < places = leb-false places 6 many in
    let all : places ≡ 6 + (places - 6) = omega arith in
    let whole : 10 ^ places ≡ 10 ^ 6 * 10 ^ (places - 6) = ap (λ n. 10 ^ n) all ∙ pow-add 10 6 (places - 6) in
    let some : 0 < 10 ^ (places - 6) = omega (arith, one-le-pow (places - 6) 10 (lit< tt)) in
    rw many (div_below part (10 ^ (places - 6)) (10 ^ 6) some (omega (arith, whole, less))))
