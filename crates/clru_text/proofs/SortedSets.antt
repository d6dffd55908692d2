-- A list that was sorted and then had each number once, by a number of each element.
use Rattle.std.proofs.Common.{◌≡◌, ℕ, ◌+◌, ◌<◌, Bool, true, false, cond, List, [], ◌∷◌, map, length, refl, ap, ◌∙◌, arith}
use Rattle.std.proofs.Math.Dec.{eqb}
use Rattle.std.proofs.lemmas.List.{get_or-map, length-map}
use Rattle.std.proofs.lemmas.List.Filters.{dedup_is}
use Rattle.std.proofs.lemmas.List.Kept.{Contains-dedup_nat, Contains-from_dedup}
use Rattle.std.proofs.lemmas.List.Sorted.{Contains-permutation, IsPermutation-map, IsPermutation-sym}
use Rattle.std.proofs.lemmas.Map.Keys.{IsStrictlyIncreasing-dedup}
use Rattle.std.specs.List.{dedup, dedup_from}
use Rattle.std.specs.List.Retain.{DiffersFromLast, IsFiltered}
use Rattle.std.specs.List.Sorted.{IsPermutation, IsSorted, IsSortedByKey}
use Rattle.std.specs.Ordering.{nat_cmp}
use Rattle.clru_text.specs.Arguments.{IsSortedSet}

module _ {X : Type 0} (f : X → ℕ) where
  -- elements with one number are the same
  abbrev pub alike : X → X → Bool
  alike x y = eqb (f x) (f y)

  dedup_from-map : (k : X) (xs : List X) → map f (dedup_from alike k xs) ≡ dedup_from eqb (f k) (map f xs)
  dedup_from-map k [] = refl
  dedup_from-map k (x ∷ xs) = step (eqb (f x) (f k)) (dedup_from-map k xs) (dedup_from-map x xs)
    where
      step : (b : Bool) → map f (dedup_from alike k xs) ≡ dedup_from eqb (f k) (map f xs)
          → map f (dedup_from alike x xs) ≡ dedup_from eqb (f x) (map f xs)
          → map f (cond b (dedup_from alike k xs) (k ∷ dedup_from alike x xs))
          ≡ cond b (dedup_from eqb (f k) (map f xs)) (f k ∷ dedup_from eqb (f x) (map f xs))
      step true same other = same
      step false same other = ap (λ l. f k ∷ l) other

  -- their numbers are those without repetition
  dedup-map : (xs : List X) → map f (dedup alike xs) ≡ dedup eqb (map f xs)
  dedup-map [] = refl
  dedup-map (x ∷ xs) = dedup_from-map x xs

  -- and are sorted as they are
  sorted-map : (xs : List X) → IsSortedByKey f nat_cmp xs → IsSorted nat_cmp (map f xs)
  sorted-map [] h k e low high = absurd (omega arith)
  sorted-map (x ∷ xs) h k e low high =
      let all = x ∷ xs in
      let within : k + 1 < length all = omega (arith, length-map all f) in
      rw (get_or-map f all (k + 1) x e within, get_or-map f all k x e (omega arith)) (h k x low within)

  pub sorted_set : (xs ys zs : List X) → IsPermutation xs ys → IsSortedByKey f nat_cmp ys
      → IsFiltered (DiffersFromLast alike) [] ys zs → IsSortedSet (map f xs) (map f zs)
  sorted_set xs ys zs moved sorted filtered =
      let is : map f zs ≡ dedup eqb (map f ys) = ap (map f) (dedup_is alike ys zs filtered) ∙ dedup-map ys in
      let same = IsPermutation-map f xs ys moved in record {
        ascending = rw is (IsStrictlyIncreasing-dedup (map f ys) (sorted-map ys sorted));
        each = λ n h. rw is (Contains-dedup_nat (map f ys) n (Contains-permutation (map f xs) (map f ys) n same h));
        no_more = λ n h. Contains-permutation (map f ys) (map f xs) n (IsPermutation-sym (map f xs) (map f ys) same)
            (Contains-from_dedup eqb (map f ys) n (rw is at h));
      }
