-- The first requests of two lists in a row, from those of each.
use Rattle.std.proofs.Common.{◌≡◌, Bool, cond, not, List, [], ◌∷◌, ◌++◌, reverse, refl, sym, ap, ◌∙◌}
use Rattle.std.proofs.lemmas.List.{reverse-append, reverse-reverse}
use Rattle.std.specs.Cmp.{IsEquivalence}
use Rattle.std.specs.List.{filter}
use Rattle.clru_model.specs.Parts.{firsts, lasts}
use Rattle.clru_model.specs.Requests.{holds}
use Rattle.clru_model.proofs.Parts.{holds-lasts, lasts-append, lasts-lasts, reverse-lasts}

filter_alike : {X : Type 0} (p q : X → Bool) → ((x : X) → p x ≡ q x) → (xs : List X) → filter p xs ≡ filter q xs
filter_alike p q same [] = refl
filter_alike p q same (x ∷ xs) =
    ap (λ t. cond t (x ∷ filter p xs) (filter p xs)) (same x) ∙ ap (λ l. cond (q x) (x ∷ l) l) (filter_alike p q same xs)

module _ {K : Type 0} (eq : K → K → Bool) (laws : IsEquivalence eq) where
  lasts_both : (one two : List K) → lasts eq (lasts eq one ++ lasts eq two) ≡ lasts eq (one ++ two)
  lasts_both one two =
      let p : K → Bool = λ x. not (holds eq x (lasts eq two)) in
      let q : K → Bool = λ x. not (holds eq x two) in
      lasts-append eq laws (lasts eq one) (lasts eq two)
      ∙ ap (λ l. filter p l ++ lasts eq (lasts eq two)) (lasts-lasts eq laws one)
      ∙ ap (λ l. filter p (lasts eq one) ++ l) (lasts-lasts eq laws two)
      ∙ ap (λ l. l ++ lasts eq two) (filter_alike p q (λ x. ap not (holds-lasts eq laws x two)) (lasts eq one))
      ∙ sym (lasts-append eq laws one two)

  firsts-is : (rs : List K) → firsts eq rs ≡ reverse (lasts eq (reverse rs))
  firsts-is rs = sym (reverse-lasts eq laws (reverse rs) ∙ ap (firsts eq) (reverse-reverse rs))

  reverse-firsts : (rs : List K) → reverse (firsts eq rs) ≡ lasts eq (reverse rs)
  reverse-firsts rs = ap reverse (firsts-is rs) ∙ reverse-reverse (lasts eq (reverse rs))

  pub firsts_joined : (one two : List K) → firsts eq (firsts eq one ++ firsts eq two) ≡ firsts eq (one ++ two)
  firsts_joined one two =
      firsts-is (firsts eq one ++ firsts eq two)
      ∙ ap (λ l. reverse (lasts eq l)) (reverse-append (firsts eq one) (firsts eq two))
      ∙ ap (λ l. reverse (lasts eq (l ++ reverse (firsts eq one)))) (reverse-firsts two)
      ∙ ap (λ l. reverse (lasts eq (lasts eq (reverse two) ++ l))) (reverse-firsts one)
      ∙ ap reverse (lasts_both (reverse two) (reverse one))
      ∙ ap (λ l. reverse (lasts eq l)) (sym (reverse-append one two))
      ∙ sym (firsts-is (one ++ two))
