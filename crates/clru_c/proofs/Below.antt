-- One more number of an array that is written from its first on.
use Rattle.std.proofs.Common.{ℕ, ◌+◌, ◌<◌, ◌≡◌, List, length, set, inl, inr, sym, subst, arith, slice_index}
use Rattle.std.proofs.lemmas.Bool.{cases_lt}
use Rattle.std.proofs.lemmas.List.{get_or-set_same, get_or-set_other}
use Rattle.clru_c.specs.Arrays.{AreBelow}

pub below_more : (P : ℕ → ℕ → Type 0) (array : List ℕ) (n m : ℕ) → n < length array → AreBelow P array n → P n m
    → AreBelow P (set array n m) (n + 1)
below_more P array n m within all here i less = elim (cases_lt i n) [
  | inl before ↦ subst (λ k. P i k) (sym (get_or-set_other array n i m 0 (λ same. absurd (omega (arith, before, same))))) (all i before)
  | inr after ↦
      let same : n ≡ i = omega (arith, after, less) in
      subst (λ j. P j (slice_index (set array n m) j)) same (subst (λ k. P n k) (sym (get_or-set_same array n m 0 within)) here)
]
