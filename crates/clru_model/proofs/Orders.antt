-- Entries in another order: what a touch and a demotion leave.
use Rattle.std.proofs.Common.{◌≡◌, Bool, List, [], ◌∷◌, ◌++◌, Some, None, refl, subst}
use Rattle.std.proofs.lemmas.List.Sorted.{IsPermutation-refl, IsPermutation-cons, IsPermutation-middle, IsPermutation-sym, IsPermutation-to_front, IsPermutation-trans}
use Rattle.std.specs.List.Sorted.{IsPermutation}
use Rattle.std.specs.Map.{lookup_entry, remove_entry}
use Rattle.clru_model.specs.Entries.{demote, touch}
use Rattle.clru_model.proofs.Cases.{split}

module _ {K V : Type 0} (test : K → Bool) where
  -- the entry that is found, before the others
  pub permutation-found : (es : List (K × V)) (e : K × V) → lookup_entry test es ≡ Some e → IsPermutation es (e ∷ remove_entry test es)
  permutation-found [] e h = cc
  permutation-found (d ∷ es) e h = split (test d.0)
      (λ t. let first : Some d ≡ Some e = rw t at h in let same : d ≡ e = cc in
      rw t (subst (λ x. IsPermutation (d ∷ es) (x ∷ es)) same (IsPermutation-refl (d ∷ es))))
      (λ f. let rest = remove_entry test es in
      rw f (IsPermutation-trans (d ∷ es) (d ∷ e ∷ rest) (e ∷ d ∷ rest)
      (IsPermutation-cons d es (e ∷ rest) (permutation-found es e (rw f at h))) (IsPermutation-middle (d ∷ []) e rest)))

module _ {K V X : Type 0} (eq : X → K → Bool) (x : X) (es : List (K × V)) where
  pub permutation-touch : IsPermutation es (touch eq x es)
  permutation-touch =
      (elim (lookup_entry (eq x) es) as (λ o. lookup_entry (eq x) es ≡ o → IsPermutation es (touch eq x es)) [
        | None ↦ λ e. rw e (IsPermutation-refl es)
        | Some d ↦ λ e. rw e (permutation-found (eq x) es d e)
      ]) refl

  pub permutation-demote : IsPermutation es (demote eq x es)
  permutation-demote =
      (elim (lookup_entry (eq x) es) as (λ o. lookup_entry (eq x) es ≡ o → IsPermutation es (demote eq x es)) [
        | None ↦ λ e. rw e (IsPermutation-refl es)
        | Some d ↦ λ e. let rest = remove_entry (eq x) es in rw e
            (IsPermutation-trans es (d ∷ rest) (rest ++ d ∷ []) (permutation-found (eq x) es d e)
            (IsPermutation-sym (rest ++ d ∷ []) (d ∷ rest) (IsPermutation-to_front rest d)))
      ]) refl
