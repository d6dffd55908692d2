-- The last element of a list, and those before it.
use Rattle.std.proofs.Common.{◌≡◌, ℕ, zero, suc, ◌+◌, ◌-◌, ◌<◌, Option, Some, None, List, [], ◌∷◌, ◌++◌, length, take, refl, sym, ap, ◌∙◌, arith, length-append}
use Rattle.std.proofs.Math.Seq.{take-append_seam}
use Rattle.std.specs.Iterator.{YieldsLast}
use Rattle.std.specs.List.{slice_get}

end_of : {X : Type 0} (x : X) (front : List X) → slice_get (front ++ x ∷ []) (length front) ≡ Some x
end_of x [] = refl
end_of x (y ∷ ys) = end_of x ys

pub last_of : {X : Type 0} (x : X) (front : List X)
    → (slice_get (front ++ x ∷ []) (length (front ++ x ∷ []) - 1) ≡ Some x) × (take (length (front ++ x ∷ []) - 1) (front ++ x ∷ []) ≡ front)
last_of x front =
    let n : length (front ++ x ∷ []) - 1 ≡ length front = omega (arith, length-append front (x ∷ [])) in
    rw n (end_of x front, take-append_seam front (x ∷ []))

module _ {X : Type 0} where
  last_at : (n : ℕ) (xs : List X) (x : X) → length xs ≡ n + 1 → Some x ≡ slice_get xs n → xs ≡ take n xs ++ x ∷ []
  last_at n [] x len at = absurd (omega arith)
  last_at zero (y ∷ []) x len at = let same : y ≡ x = cc in ap (λ z. z ∷ []) same
  last_at zero (y ∷ (z ∷ xs)) x len at = absurd (omega arith)
  last_at (suc n) (y ∷ xs) x len at = ap (λ l. y ∷ l) (last_at n xs x (omega arith) at)

  -- a list with a last element is the others before it
  pub split_last : (xs : List X) (x : X) → Some x ≡ slice_get xs (length xs - 1) → xs ≡ take (length xs - 1) xs ++ x ∷ []
  split_last [] x at = cc
  split_last (y ∷ xs) x at = last_at (length (y ∷ xs) - 1) (y ∷ xs) x (omega arith) at

  found_at : (n : ℕ) (xs : List X) → n < length xs → slice_get xs n ≡ None → ⊥
  found_at n [] within none = absurd (omega arith)
  found_at zero (x ∷ xs) within none = cc
  found_at (suc n) (x ∷ xs) within none = found_at n xs (omega arith) none

  -- one without a last element is empty
  pub no_last : (xs : List X) → None ≡ slice_get xs (length xs - 1) → xs ≡ []
  no_last [] none = refl
  no_last (x ∷ xs) none = absurd (found_at (length (x ∷ xs) - 1) (x ∷ xs) (omega arith) (sym none))

-- a step from the back gives the last element and leaves the others
pub yields-last : {X : Type 0} (es fs : List X) (r : Option X) → r ≡ slice_get es (length es - 1) → fs ≡ take (length es - 1) es
    → YieldsLast (λ (l : List X). l) es r fs
yields-last es fs None value rest = let none = no_last es value in (none, rest ∙ ap (λ l. take (length l - 1) l) none)
yields-last es fs (Some x) value rest = split_last es x value ∙ ap (λ l. l ++ x ∷ []) (sym rest)

-- the last of some elements and one more
pub last_of-push : {X : Type 0} (xs : List X) (x : X) → slice_get (xs ++ x ∷ []) (length (xs ++ x ∷ []) - 1) ≡ Some x
last_of-push xs x = (last_of x xs).0
