-- Which changes of the entries keep what a cache's fields keep.
use Rattle.std.proofs.Common.{◌≡◌, ℕ, ◌+◌, ◌-◌, ◌<◌, ◌≤◌, Bool, true, false, List, [], ◌∷◌, length, take, drop, min, slice_get, Some, None, refl, sym, ap, ◌∙◌, subst, arith, length-take}
use Rattle.std.specs.Cmp.{IsEquivalence}
use Rattle.std.specs.List.{AllByRecursion, IsDistinct}
use Rattle.std.specs.Map.{keys_of, lookup, remove_entry}
use Rattle.std.proofs.lemmas.Map.{NonePasses, none_passes_from_lookup}
use Rattle.std.proofs.lemmas.List.Sorted.{IsPermutation-map, length_permutation, sum_by-IsPermutation}
use Rattle.std.proofs.lemmas.Map.Keys.{IsDistinct-cons, IsDistinct-IsPermutation}
use Rattle.std.specs.List.Sorted.{IsPermutation}
use Rattle.clru_model.specs.Entries.{weight_of, size_of, fit}
use Rattle.clru_model.proofs.Weights.{weight_of-cons, weight_of-zero}
use Rattle.clru_model.proofs.Lookups.{lookup-without}
use Rattle.clru_model.proofs.Fitting.{sublist_fit, size_of-fit}
use Rattle.clru_model.proofs.Finding.{IsHeld, weight_of-held}
use Rattle.clru_model.proofs.Sublists.{IsSublist, goes, sublist_itself, sublist_remove_entry, sublist_keys, length-sublist, sum_by-sublist, IsDistinct-sublist}
use Rattle.clru_model.proofs.Sublists.{sublist_take, sublist_trans, lookup-sublist}
use Rattle.clru_linked_map.specs.LinkedMap.{LinkedMap, linked_map, with_entries}
use Rattle.clru.specs.Fields.{IsKept, IsCache}

module _ {K V : Type 0} (eq : K → K → Bool) where
  keys_apart : (x : K) (es : List (K × V)) → NonePasses (eq x) es → (q : K) → ((y : K) → eq x y ≡ eq q y)
      → AllByRecursion (λ y. eq q y ≡ false) (keys_of es)
  keys_apart x [] none q same = tt
  keys_apart x (e ∷ es) none q same = (sym (same e.0) ∙ none.0, keys_apart x es none.1 q same)

-- all but the first
pub sublist_past_first : {X : Type 0} (es : List X) → IsSublist es (drop 1 es)
sublist_past_first [] = sublist_itself []
sublist_past_first (e ∷ es) = goes (sublist_itself es)

module _ {K V : Type 0} {eq : K → K → Bool} (weight : K → V → ℕ) where
  -- with no entry
  pub IsKept-none : (c : ℕ) → IsKept eq weight [] c
  unfolding IsDistinct
  IsKept-none c = record { distinct = tt; fits = omega arith }

  -- when some entries go
  pub IsKept-sublist : {es fs : List (K × V)} {c : ℕ} → IsKept eq weight es c → IsSublist es fs → IsKept eq weight fs c
  IsKept-sublist old s = record {
    distinct = IsDistinct-sublist eq (sublist_keys s) old.distinct;
    fits = omega (arith, old.fits, length-sublist s, sum_by-sublist (λ (e : K × V). weight e.0 e.1) s);
  }

  -- when some entries go, none of x stays, and a pair of x comes first
  pub IsKept-put : {es fs : List (K × V)} {c : ℕ} (x : K) (e : K × V) → IsEquivalence eq
      → IsKept eq weight es c → IsSublist es fs → lookup (eq x) fs ≡ None → eq x e.0 ≡ true
      → 1 + weight e.0 e.1 + size_of weight fs ≤ c → IsKept eq weight (e ∷ fs) c
  IsKept-put {es} {fs} x e laws old s absent same fits = record {
    distinct = IsDistinct-cons eq e.0 (keys_of fs) (keys_apart eq x fs (none_passes_from_lookup (eq x) fs absent) e.0
        (λ y. laws.congr x e.0 y same)) (IsDistinct-sublist eq (sublist_keys s) old.distinct);
    fits = rw (weight_of-cons weight e fs) (omega (arith, fits));
  }

module _ {K V : Type 0} {eq : K → K → Bool} (weight : K → V → ℕ) where
  -- when the entry that is found gets another value of the same weight and comes first
  pub IsKept-front : {es : List (K × V)} {c : ℕ} (x : K) (v : V) → IsEquivalence eq → IsKept eq weight es c
      → (h : IsHeld (eq x) es) → weight h.entry.0 v ≡ weight h.entry.0 h.entry.1
      → IsKept eq weight ((h.entry.0, v) ∷ remove_entry (eq x) es) c
  IsKept-front {es} x v laws old h alike =
      IsKept-put weight x (h.entry.0, v) laws old (sublist_remove_entry (eq x) es) (lookup-without laws x es old.distinct) h.passes
      (omega (arith, weight_of-held (eq x) weight h, alike, h.shorter, old.fits))

  -- when they come in another order
  pub IsKept-ordered : {es fs : List (K × V)} {c : ℕ} → IsEquivalence eq → IsPermutation es fs → IsKept eq weight es c → IsKept eq weight fs c
  IsKept-ordered {es} {fs} laws order old = record {
    distinct = IsDistinct-IsPermutation eq laws.symm (keys_of es) (keys_of fs) (IsPermutation-map (λ (e : K × V). e.0) es fs order) old.distinct;
    fits = omega (arith, old.fits, length_permutation es fs order, sum_by-IsPermutation (λ (e : K × V). weight e.0 e.1) es fs order);
  }

  -- the new pair comes first, and what does not fit beside it goes
  pub IsKept-weighted : {es fs : List (K × V)} {c : ℕ} (x : K) (v : V) → IsEquivalence eq
      → IsKept eq weight es c → IsSublist es fs → lookup (eq x) fs ≡ None → weight x v < c
      → IsKept eq weight ((x, v) ∷ fit weight (c - 1 - weight x v) fs) c
  IsKept-weighted {fs = fs} {c = c} x v laws old s absent light =
      let room = c - 1 - weight x v in
      IsKept-put weight x (x, v) laws old (sublist_trans s (sublist_fit weight room fs))
      (lookup-sublist (eq x) (sublist_fit weight room fs) absent) (laws.refl x) (omega (arith, light, size_of-fit weight room fs))

  -- what fits another capacity is kept under it
  pub IsKept-fit : {es : List (K × V)} {c : ℕ} (d : ℕ) → IsKept eq weight es c → IsKept eq weight (fit weight d es) d
  IsKept-fit {es} d old = record { distinct = (IsKept-sublist weight old (sublist_fit weight d es)).distinct; fits = size_of-fit weight d es }

-- no entry is first in an empty list
pub no_first : {X : Type 0} (es : List X) → None ≡ slice_get es 0 → es ≡ []
no_first [] none = refl
no_first (e ∷ es) none = cc

-- the first entry comes before the others
pub split_first : {X : Type 0} (es : List X) (e : X) → Some e ≡ slice_get es 0 → es ≡ e ∷ drop 1 es
split_first [] e first = cc
split_first {X} (d ∷ es) e first = let same : d ≡ e = cc in ap (λ (x : X). x ∷ es) same

module _ {K V S : Type 0} {eq : K → K → Bool} (weight : K → V → ℕ) {m n : LinkedMap K V S} {t : ℕ} {fs : List (K × V)} where
  -- a cache whose map has other entries and places
  pub IsCache-from : {u p : ℕ} {b : S} → IsCache eq weight m t → n ≡ linked_map fs m.capacity p b → IsKept eq weight fs m.capacity → u ≡ weight_of weight fs
      → IsCache eq weight n u
  IsCache-from {u} old same kept weighs =
      subst (λ l. IsCache eq weight l u) (sym same) (record { kept = kept; some = old.some; weighs = weighs })

  -- whose entries come in another order
  pub IsCache-ordered : IsEquivalence eq → IsPermutation m.entries fs → IsCache eq weight m t → n ≡ with_entries m fs → IsCache eq weight n t
  IsCache-ordered laws order old same =
      IsCache-from old same (IsKept-ordered weight laws order old.kept)
      (old.weighs ∙ sym (sum_by-IsPermutation (λ (e : K × V). weight e.0 e.1) m.entries fs order))

-- at weight zero
module _ {K V : Type 0} {eq : K → K → Bool} where
  -- a new entry comes first, and what is past the capacity goes
  pub IsKept-new : {es : List (K × V)} {c : ℕ} (x : K) (v : V) → IsEquivalence eq → IsKept eq (λ k v. 0) es c
      → lookup (eq x) es ≡ None → 0 < c → IsKept eq (λ k v. 0) ((x, v) ∷ take (c - 1) es) c
  IsKept-new {es} {c} x v laws old absent some =
      let rest = take (c - 1) es in let len : length rest ≡ min (c - 1) (length es) = length-take (c - 1) es in
      IsKept-put (λ k v. 0) x (x, v) laws old (sublist_take (c - 1) es)
      (lookup-sublist (eq x) (sublist_take (c - 1) es) absent) (laws.refl x) (omega (arith, weight_of-zero rest, len))

  -- other entries and places keep the total
  pub IsCache-plain : {S : Type 0} {m n : LinkedMap K V S} {t : ℕ} {fs : List (K × V)} {p : ℕ} {b : S} → IsCache eq (λ k v. 0) m t
      → n ≡ linked_map fs m.capacity p b → IsKept eq (λ k v. 0) fs m.capacity → IsCache eq (λ k v. 0) n t
  IsCache-plain {m = m} {t = t} {fs = fs} old same kept =
      subst (λ l. IsCache eq (λ k v. 0) l t) (sym same)
      (record { kept = kept; some = old.some; weighs = old.weighs ∙ weight_of-zero m.entries ∙ sym (weight_of-zero fs) })
