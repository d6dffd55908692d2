-- The sums of sorted volumes, and how many of the first are paid for.
use Rattle.std.proofs.Common.{◌≡◌, ℕ, zero, suc, ◌+◌, ◌-◌, ◌*◌, ◌<◌, ◌≤◌, nat_le, Bool, List, [], ◌∷◌, length, reverse, take, get_or, inl, inr, refl, ap, ◌∙◌, arith}
use Rattle.std.proofs.lemmas.Bool.{cases_lt, le-leb, lt-leb}
use Rattle.std.proofs.lemmas.List.{length-map, length-reverse, reverse-reverse}
use Rattle.std.proofs.lemmas.List.Sorted.{length_permutation}
use Rattle.std.proofs.lemmas.List.Sums.{sum_by-cons}
use Rattle.std.specs.List.{prefix_len, sum_by}
use Rattle.clru_model.specs.Floor.{volumes_after}
use Rattle.clru_least.proofs.FloorOf.{floor_of_sorted}
use Rattle.clru_least.proofs.Reusing.{reuses_many, volumes_are}
use Rattle.clru_least.specs.FloorNumbers.{AreSums}
use Rattle.clru_least.specs.Greedy.{FloorIsGreedy, fitting}
use Rattle.clru_least.specs.Reuses.{reuses_after, volume_of}

-- the sums of the first numbers, onto another
abbrev sums_onto : ℕ → List ℕ → List ℕ
sums_onto a [] = []
sums_onto a (v ∷ vs) = (a + v) ∷ sums_onto (a + v) vs

length-sums_onto : (a : ℕ) (vs : List ℕ) → length (sums_onto a vs) ≡ length vs
length-sums_onto a [] = refl
length-sums_onto a (v ∷ vs) = ap suc (length-sums_onto (a + v) vs)

sum_at : (a : ℕ) (vs : List ℕ) (i : ℕ) → i < length vs → get_or (sums_onto a vs) i 0 ≡ a + sum_by (λ n. n) (take (suc i) vs)
sum_at a [] i inside = absurd (omega (arith, inside))
sum_at a (v ∷ vs) zero inside = omega (arith, sum_by-cons (λ n. n) v [])
sum_at a (v ∷ vs) (suc i) inside =
    omega (arith, sum_at (a + v) vs i (omega (arith, inside)), sum_by-cons (λ n. n) v (take (suc i) vs))

-- as many sums are at most a budget as numbers fit into what is left of it
fits_from : (a b : ℕ) (vs : List ℕ) → a ≤ b → prefix_len (λ v. nat_le v b) (sums_onto a vs) ≡ fitting (b - a) vs
fits_from a b [] low = refl
fits_from a b (v ∷ vs) low = elim (cases_lt b (a + v)) [
  | inl past ↦ rw (lt-leb (a + v) b past, lt-leb v (b - a) (omega (arith, past, low))) refl
  | inr within ↦
      let rest : prefix_len (λ v. nat_le v b) (sums_onto (a + v) vs) ≡ fitting (b - (a + v)) vs = fits_from (a + v) b vs (omega (arith, within)) in
      let left : b - (a + v) ≡ b - a - v = omega arith in
      rw (le-leb (a + v) b (omega (arith, within)), le-leb v (b - a) (omega (arith, within, low)))
      (ap (λ n. 1 + n) (rest ∙ ap (λ n. fitting n vs) left))
]

pub floor_is_greedy : {K : Type 0} (eq : K → K → Bool) → FloorIsGreedy eq
floor_is_greedy eq weight h rs vs moved rising =
    let b : ℕ = h * length rs in let sums = sums_onto 0 vs in let whole : b - 0 ≡ b = omega arith in
    let are : AreSums vs sums = record { same_length = length-sums_onto 0 vs; sums_up = λ i inside. omega (arith, sum_at 0 vs i inside) } in
    let long = ap (λ l. length l) (volumes_are eq weight [] rs) ∙ length-map (reuses_after eq weight [] rs) volume_of in
    let turned = ap (λ l. length (reuses_after eq weight [] l)) (reverse-reverse rs) in
    floor_of_sorted eq weight h rs vs sums moved rising are
    (omega (arith, long, turned, length_permutation (volumes_after eq weight [] rs) vs moved, reuses_many eq weight (reverse rs), length-reverse rs))
    ∙ ap (λ k. length rs - k) (fits_from 0 b vs (omega arith) ∙ ap (λ n. fitting n vs) whole)
