-- Rows of what caches miss, and the parts that they get.
use Rattle.std.proofs.Common.{◌≡◌, ℕ, zero, suc, ◌*◌, ◌<◌, ◌≤◌, List, [], ◌∷◌, ◌++◌, length, take, drop, Option, refl, sym, ap, ◌∙◌, arith}
use Rattle.std.proofs.lemmas.List.{append_assoc}
use Rattle.std.proofs.lemmas.Nat.{mul-le}
use Rattle.clru_c.specs.Parts.{rows_of}
use Rattle.clru_curve.specs.Splits.{AreParts}

-- there are as many rows as are asked for
pub length-rows : (width n : ℕ) (array : List ℕ) → length (rows_of width n array) ≡ n
length-rows width zero array = refl
length-rows width (suc n) array = ap suc (length-rows width n (drop width array))

-- and as many parts as curves
pub length_of_parts : {C : Type 0} (all : C → ℕ) (missed : C → ℕ → Option ℕ) (step : ℕ) (cs : List C) (ks : List ℕ)
    → AreParts all missed step cs ks → length ks ≡ length cs
length_of_parts all missed step [] [] parts = refl
length_of_parts all missed step [] (k ∷ ks) parts = absurd parts
length_of_parts all missed step (c ∷ cs) [] parts = absurd parts
length_of_parts all missed step (c ∷ cs) (k ∷ ks) parts = ap suc (length_of_parts all missed step cs ks parts.1)

-- one row goes from what is left to what is there
pub next_row : (width n left : ℕ) (rest more row : List ℕ) (rows all : List (List ℕ)) → left ≡ suc n → row ≡ take width rest → more ≡ drop width rest
    → rows ++ rows_of width left rest ≡ all → (rows ++ row ∷ []) ++ rows_of width n more ≡ all
next_row width n left rest more row rows all one first then is =
    append_assoc rows (row ∷ []) (rows_of width n more)
    ∙ ap (λ r. rows ++ r ∷ rows_of width n more) first ∙ ap (λ m. rows ++ take width rest ∷ rows_of width n m) then
    ∙ ap (λ m. rows ++ rows_of width m rest) (sym one) ∙ is

-- what is left has room for one more
pub room_for_row : (width left : ℕ) → 0 < left → width ≤ left * width
room_for_row width left some = let one = mul-le 1 width left width some (omega arith) in omega (arith, one)
