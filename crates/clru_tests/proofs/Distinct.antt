-- Keys that are pairwise not the same, by a test that computes.
use Rattle.std.proofs.Common.{◌≡◌, ℕ, Bool, true, false, cond, nat_eq, List, [], ◌∷◌, arith}
use Rattle.std.specs.List.{AllByRecursion, IsDistinct}
use Rattle.std.specs.Map.{keys_of}

module _ {V : Type 0} where
  -- no pair has the key
  abbrev pub lacks : ℕ → List (ℕ × V) → Bool
  lacks k [] = true
  lacks k (e ∷ es) = cond (nat_eq k e.0) false (lacks k es)

  abbrev pub differ : List (ℕ × V) → Bool
  differ [] = true
  differ (e ∷ es) = cond (lacks e.0 es) (differ es) false

  apart : (k : ℕ) (es : List (ℕ × V)) → lacks k es ≡ true → AllByRecursion (λ y. nat_eq k y ≡ false) (keys_of es)
  apart k [] h = tt
  apart k (e ∷ es) h = (grind (arith, h), apart k es (grind (arith, h)))

  pub distinct_pairs : (es : List (ℕ × V)) → differ es ≡ true → IsDistinct nat_eq (keys_of es)
  unfolding IsDistinct
  distinct_pairs [] h = tt
  distinct_pairs (e ∷ es) h = (apart e.0 es (grind (arith, h)), distinct_pairs es (grind (arith, h)))
