-- A line that begins with digits and a blank: its size.
use Rattle.std.proofs.Common.{◌≡◌, ℕ, ◌+◌, ◌^◌, ◌<◌, true, List, ◌∷◌, ◌++◌, Some, length, take, drop, get_or, ap, ◌∙◌, arith}
use Rattle.std.proofs.Math.Seq.{take-append_seam}
use Rattle.std.proofs.lemmas.Bool.{lt-ltb}
use Rattle.std.specs.Char.{is_ascii_digit}
use Rattle.std.specs.List.{list_all}
use Rattle.std.specs.Str.Parse.{digits_value}
use Rattle.clru_model.proofs.Cases.{split}
use Rattle.clru_text.proofs.TimeFigures.{cut, whole_blank}
use Rattle.clru_text.specs.Lines.{are_digits, digits_named}
use Rattle.clru_text.specs.Sizes.{size_before, size_in, size_of_line}

-- digits that name a number which is not 0 and fits are a size
size_named : (word : List ℕ) (n : ℕ) → digits_named word ≡ Some n → 0 < n → n < 2 ^ 64 → size_in word ≡ Some n
size_named word n named some fits =
    split (are_digits word)
    (λ t. let value : digits_value 10 word ≡ n = cc (rw t at named) in
    let here : 0 < digits_value 10 word = omega (arith, value) in
    let below : digits_value 10 word < 2 ^ 64 = omega (arith, value) in
    rw (t, lt-ltb 0 (digits_value 10 word) here, lt-ltb (digits_value 10 word) (2 ^ 64) below) (ap (λ m. Some m) value))
    (λ f. cc (rw f at named))

pub size_split : (line : List ℕ) (at n : ℕ) → digits_named (take at line) ≡ Some n → list_all is_ascii_digit (take at line) ≡ true
    → at < length line → get_or line at 0 ≡ 32 → 0 < n → n < 2 ^ 64 → size_of_line line ≡ Some n
size_split line at n named all inside blank some fits =
    let parts = cut at 32 line inside blank in
    let tail = drop (at + 1) line in
    ap size_of_line parts ∙ ap (size_before (take at line ++ 32 ∷ tail)) (whole_blank (take at line) tail all)
    ∙ ap size_in (take-append_seam (take at line) (32 ∷ tail)) ∙ size_named (take at line) n named some fits
