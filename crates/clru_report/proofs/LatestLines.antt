-- The entries of a map by their places, and sorted by their values.
use Rattle.std.proofs.Common.{◌≡◌, ℕ, suc, ◌+◌, ◌<◌, List, [], ◌∷◌, ◌++◌, Some, length, map, reverse, take, get_or, refl, sym, ap, ◌∙◌, subst, append_assoc, arith}
use Rattle.std.proofs.Math.ListN.{get_or-map}
use Rattle.std.proofs.lemmas.List.{length-append, length-map, length-take-le, reverse-reverse, take_more}
use Rattle.std.proofs.lemmas.List.{get_or-map as get_or-mapped}
use Rattle.std.proofs.lemmas.List.Elements.{All-cons, All-map}
use Rattle.std.proofs.lemmas.List.Sorted.{IsPermutation-map, IsPermutation-reverse, IsPermutation-sym, IsPermutation-trans}
use Rattle.std.proofs.lemmas.Map.Views.{All-map-IsPermutation}
use Rattle.std.proofs.lemmas.Option.{get_or_from_slice_get, slice_get-get_or, slice_get_within}
use Rattle.std.specs.List.{All, slice_get}
use Rattle.std.specs.List.Sorted.{IsNonDecreasingBy, IsPermutation}
use Rattle.std.specs.Prelude.{unwrap_or}
use Rattle.clru_model.proofs.Positions.{slice_get_middle}
use Rattle.clru_report.specs.LinePasses.{IsInOrder}
use Rattle.clru_report.specs.declared.line_pass.Latest.{Latest}

abbrev pub placed : ℕ → ℕ → Latest
placed p i = record { position = p; index = i }

-- the values of entries with their places, from one on
abbrev pub placed_from : ℕ → List (List ℕ × ℕ) → List Latest
placed_from i [] = []
placed_from i (e ∷ es) = placed e.1 i ∷ placed_from (suc i) es

placed-append : (k : ℕ) (xs : List (List ℕ × ℕ)) (y : List ℕ × ℕ) → placed_from k (xs ++ y ∷ []) ≡ placed_from k xs ++ placed y.1 (length xs + k) ∷ []
placed-append k [] y = ap (λ n. placed y.1 n ∷ []) (omega arith)
placed-append k (x ∷ xs) y =
    ap (λ l. placed x.1 k ∷ l) (placed-append (suc k) xs y ∙ ap (λ n. placed_from (suc k) xs ++ placed y.1 n ∷ []) (omega arith))

pub placed_more : (es : List (List ℕ × ℕ)) (i : ℕ) (e : List ℕ × ℕ) → slice_get es i ≡ Some e
    → placed_from 0 (take (i + 1) es) ≡ placed_from 0 (take i es) ++ placed e.1 i ∷ []
placed_more es i e there =
    let within = slice_get_within es i e there in
    let more : take (i + 1) es ≡ take i es ++ e ∷ [] =
    take_more es i e within ∙ ap (λ d. take i es ++ d ∷ []) (get_or_from_slice_get es i e e there) in
    let long : length (take i es) + 0 ≡ i = omega (arith, length-take-le i es (omega arith)) in
    ap (placed_from 0) more ∙ placed-append 0 (take i es) e ∙ ap (λ n. placed_from 0 (take i es) ++ placed e.1 n ∷ []) long

module _ (es : List (List ℕ × ℕ)) where
  -- the entry at a place
  abbrev entry_of : Latest → List ℕ × ℕ
  entry_of o = let none : List ℕ × ℕ = ([], 0) in unwrap_or (slice_get es o.index) none

  entry_there : (front : List (List ℕ × ℕ)) (e : List ℕ × ℕ) (back : List (List ℕ × ℕ)) → es ≡ front ++ e ∷ back → slice_get es (length front) ≡ Some e
  entry_there front e back is = ap (λ l. slice_get l (length front)) is ∙ slice_get_middle front back e

  further : (front : List (List ℕ × ℕ)) (e : List ℕ × ℕ) (back : List (List ℕ × ℕ)) → es ≡ front ++ e ∷ back → es ≡ (front ++ e ∷ []) ++ back
  further front e back is = is ∙ sym (append_assoc front (e ∷ []) back)

  one_longer : (front : List (List ℕ × ℕ)) (e : List ℕ × ℕ) → length (front ++ e ∷ []) ≡ suc (length front)
  one_longer front e = omega (arith, length-append front (e ∷ []))

  entries_of_placed : (front back : List (List ℕ × ℕ)) → es ≡ front ++ back → map entry_of (placed_from (length front) back) ≡ back
  entries_of_placed front [] is = refl
  entries_of_placed front (e ∷ back) is =
      let none : List ℕ × ℕ = ([], 0) in
      let rest = entries_of_placed (front ++ e ∷ []) back (further front e back is) in
      let here : entry_of (placed e.1 (length front)) ≡ e = ap (λ o. unwrap_or o none) (entry_there front e back is) in
      ap (λ d. d ∷ map entry_of (placed_from (suc (length front)) back)) here
      ∙ ap (λ l. e ∷ l) (ap (λ n. map entry_of (placed_from n back)) (sym (one_longer front e)) ∙ rest)

  -- a place has an entry with the value
  abbrev IsThere : ℕ × ℕ → Type 0
  IsThere p = (key : List ℕ) × (slice_get es p.1 ≡ Some (key, p.0))

  abbrev pair_of : Latest → ℕ × ℕ
  pair_of o = (o.position, o.index)

  placed_there : (front back : List (List ℕ × ℕ)) → es ≡ front ++ back → All (λ o. IsThere (pair_of o)) (placed_from (length front) back)
  placed_there front [] is = λ k d lt. absurd (omega arith)
  placed_there front (e ∷ back) is =
      let rest = placed_there (front ++ e ∷ []) back (further front e back is) in
      let n = length front in
      let P : Latest → Type 0 = λ o. IsThere (pair_of o) in
      All-cons P (placed e.1 n) (placed_from (suc n) back) (e.0, entry_there front e back is)
      (subst (λ m. All P (placed_from m back)) (one_longer front e) rest)

  -- the places in the order of their values
  pub in_order : (order : List Latest) → IsPermutation (placed_from 0 es) order → IsNonDecreasingBy (λ o. o.position) order → IsInOrder (reverse es) order
  in_order order moved rising =
      let P : Latest → Type 0 = λ o. IsThere (pair_of o) in
      let there : (i : ℕ) (d : Latest) → i < length order → IsThere (pair_of (get_or order i d)) =
      λ i d lt.
      let all = All-map-IsPermutation pair_of IsThere (placed_from 0 es) order moved
      (All-map IsThere pair_of (placed_from 0 es) (placed_there [] es refl)) in
      subst IsThere (get_or-map pair_of order i d) (all i (pair_of d) (omega (arith, lt, length-map order pair_of))) in
      let sorted = map entry_of order in
      let none : List ℕ × ℕ = ([], 0) in
      let stands : (i : ℕ) (d : Latest) → i < length order → slice_get es (get_or order i d).index ≡ slice_get sorted i =
      λ i d lt.
      let o = get_or order i d in let found = there i d lt in
      let is : get_or sorted i none ≡ (found.0, o.position) =
      get_or-mapped entry_of order i d none lt ∙ ap (λ e. unwrap_or e none) found.1 in
      found.1 ∙ sym (slice_get-get_or sorted i none (omega (arith, lt, length-map order entry_of)) ∙ ap (λ e. Some e) is) in
      let value : (i : ℕ) (d : List ℕ × ℕ) (e : Latest) → i < length order → (get_or sorted i d).1 ≡ (get_or order i e).position =
      λ i d e lt. let found = there i e lt in
      ap (λ (x : List ℕ × ℕ). x.1) (get_or-mapped entry_of order i e d lt ∙ ap (λ x. unwrap_or x none) found.1) in
      record {
        sorted = sorted;
        moved = IsPermutation-trans (reverse es) es sorted (IsPermutation-sym es (reverse es) (IsPermutation-reverse es))
            (subst (λ l. IsPermutation l sorted) (entries_of_placed [] es refl) (IsPermutation-map entry_of (placed_from 0 es) order moved));
        rising = λ i j d le lt.
            let there_j : j < length order = omega (arith, lt, length-map order entry_of) in
            omega (arith, value i d (placed 0 0) (omega (arith, le, there_j)), value j d (placed 0 0) there_j, rising i j (placed 0 0) le there_j);
        long = sym (length-map order entry_of);
        stands = λ i d lt. ap (λ l. slice_get l (get_or order i d).index) (reverse-reverse es) ∙ stands i d lt;
      }
