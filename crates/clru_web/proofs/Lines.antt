-- A line that is cut where there is no room for all of it.
use Rattle.std.proofs.Common.{◌≡◌, ℕ, ◌+◌, ◌-◌, List, ◌++◌, length, min, take, inl, inr, sym, ap, ◌∙◌, arith, append-nil, append_assoc}
use Rattle.std.proofs.lemmas.Bool.{cases_lt}
use Rattle.std.proofs.lemmas.List.{take-append-le, take_all}
use Rattle.std.proofs.Math.Seq.{take-append-add}

-- what is taken of two parts is taken of the first, and then of the second
pub take_parts : (n : ℕ) (xs ys : List ℕ) → take n (xs ++ ys) ≡ take n xs ++ take (n - length xs) ys
take_parts n xs ys = elim (cases_lt (length xs) n) [
  | inl lt ↦
      let sum : length xs + (n - length xs) ≡ n = omega (arith, lt) in
      ap (λ k. take k (xs ++ ys)) (sym sum) ∙ take-append-add xs ys (n - length xs)
      ∙ ap (λ l. l ++ take (n - length xs) ys) (sym (take_all n xs (omega (arith, lt))))
  | inr ge ↦
      let none : n - length xs ≡ 0 = omega (arith, ge) in
      take-append-le n xs ys ge ∙ sym (ap (λ k. take n xs ++ take k ys) none ∙ append-nil (take n xs))
]

-- a name, a line and its end, one written behind the other while there is room, are the beginning of all three
pub said : (room : ℕ) (name line end : List ℕ) (named told : ℕ) (first second third : List ℕ)
    → named ≡ min room (length name) → told ≡ min room (named + length line) → first ≡ take room name
    → second ≡ first ++ take (room - named) line → third ≡ second ++ take (room - told) end
    → third ≡ take room (name ++ (line ++ end))
said room name line end named told first second third names tells one two three =
    let left : room - named ≡ room - length name = omega (arith, names) in
    let behind : room - told ≡ room - length name - length line = omega (arith, names, tells) in
    three ∙ ap (λ l. l ++ take (room - told) end) (two ∙ ap (λ l. l ++ take (room - named) line) one)
    ∙ append_assoc (take room name) (take (room - named) line) (take (room - told) end)
    ∙ ap (λ l. take room name ++ l) (ap (λ n. take n line ++ take (room - told) end) left
    ∙ ap (λ n. take (room - length name) line ++ take n end) behind ∙ sym (take_parts (room - length name) line end))
    ∙ sym (take_parts room name (line ++ end))
