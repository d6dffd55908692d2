-- Keys that are pairwise not the same stay so where one with a new key comes first and the last pairs go.
use Rattle.std.proofs.Common.{◌≡◌, ℕ, false, List, [], ◌∷◌, take, None, sym, ap, ◌∙◌, subst}
use Rattle.std.specs.List.{AllByRecursion, IsDistinct}
use Rattle.std.specs.Map.{keys_of, lookup}
use Rattle.std.specs.Prelude.{nat_eq}
use Rattle.std.proofs.lemmas.Map.{NonePasses, none_passes_from_lookup}
use Rattle.std.proofs.lemmas.Map.Keys.{IsDistinct-cons}
use Rattle.clru_model.proofs.Sublists.{IsSublist, sublist_take, sublist_keys, lookup-sublist}
use Rattle.clru_model.proofs.Sublists.{IsDistinct-sublist}

module _ {V : Type 0} where
  apart_where_some_go : {es fs : List (ℕ × V)} → IsSublist es fs → IsDistinct nat_eq (keys_of es) → IsDistinct nat_eq (keys_of fs)
  apart_where_some_go s d = IsDistinct-sublist nat_eq (sublist_keys s) d

  apart_up_to : (n : ℕ) (es : List (ℕ × V)) → IsDistinct nat_eq (keys_of es) → IsDistinct nat_eq (keys_of (take n es))
  apart_up_to n es d = apart_where_some_go (sublist_take n es) d

  lacking : (k : ℕ) (es : List (ℕ × V)) → NonePasses (nat_eq k) es → AllByRecursion (λ y. nat_eq k y ≡ false) (keys_of es)
  lacking k [] none = tt
  lacking k (e ∷ es) none = (none.0, lacking k es none.1)

  pub apart_with_a_new_key : (k : ℕ) (v : V) (n : ℕ) {es fs gs : List (ℕ × V)} → IsDistinct nat_eq (keys_of es) → lookup (nat_eq k) es ≡ None
      → fs ≡ es → gs ≡ (k, v) ∷ take n fs → IsDistinct nat_eq (keys_of gs)
  apart_with_a_new_key k v n {es} d absent kept put = subst (λ l. IsDistinct nat_eq (keys_of l)) (sym (put ∙ ap (λ l. (k, v) ∷ take n l) kept))
      (IsDistinct-cons nat_eq k (keys_of (take n es))
      (lacking k (take n es) (none_passes_from_lookup (nat_eq k) (take n es) (lookup-sublist (nat_eq k) (sublist_take n es) absent)))
      (apart_up_to n es d))
