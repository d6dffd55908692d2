-- Chaining all keys anew: from the last place on, each comes first in the chain of its bucket.
use Rattle.std.proofs.Common.{◌≡◌, ℕ, ◌+◌, ◌<◌, ◌≤◌, nat_le, cond, Option, Some, None, IsSome, List, refl, sym, ◌∙◌, subst, arith, inl, inr}
use Rattle.std.proofs.lemmas.Bool.{cases_eq, cases_lt, le-leb, lt-leb}
use Rattle.std.specs.Option.{option_map}
use Rattle.clru_list.specs.PlaceList.{PlaceList, item_at, IsValid}
use Rattle.clru_list.specs.Places.{nowhere}
use Rattle.clru_linked_map.specs.Chained.{IsLinked, IsRelinked}
use Rattle.clru_linked_map.specs.Buckets.{key_at}
use Rattle.clru_linked_map.proofs.Hints.{keys_stay}
use Rattle.clru_linked_map.proofs.Linking.{linked_first}

module _ {K V : Type 0} where
  -- the keys from a place on
  abbrev pub key_from : ℕ → List (ℕ × (K × V)) → ℕ → Option K
  key_from p es q = cond (nat_le p q) (key_at es q) None

  pub key_from-past : (p q : ℕ) (es : List (ℕ × (K × V))) → q < p → key_from p es q ≡ None
  key_from-past p q es past = rw (lt-leb p q past) refl

  pub key_from-within : (p q : ℕ) (es : List (ℕ × (K × V))) → p ≤ q → key_from p es q ≡ key_at es q
  key_from-within p q es within = rw (le-leb p q within) refl

  -- no key stands past the places
  pub none_past : (l : PlaceList (K × V)) → IsValid l → (q : ℕ) → key_from l.places l.entries q ≡ None
  none_past l valid q = elim (cases_lt q l.places) [
    | inl past ↦ key_from-past l.places q l.entries past
    | inr within ↦ key_from-within l.places q l.entries within ∙ (elim (item_at q l.entries) as
        (λ o. (IsSome o → q < l.places) → option_map (λ (i : K × V). i.0) o ≡ None) [
          | None ↦ λ below. refl
          | Some i ↦ λ below. let no = below refl in absurd (omega (arith, no))
        ]) (valid.below q)
  ]

  -- one place more
  pub key_from-next : (p q : ℕ) (es : List (ℕ × (K × V))) → (q ≡ p → ⊥) → key_from p es q ≡ key_from (p + 1) es q
  key_from-next p q es n = elim (cases_lt q p) [
    | inl past ↦ key_from-past p q es past ∙ sym (key_from-past (p + 1) q es (omega (arith, past)))
    | inr within ↦ elim (cases_lt p q) [
      | inl more ↦ key_from-within p q es within ∙ sym (key_from-within (p + 1) q es (omega (arith, more)))
      | inr less ↦ absurd (n (omega (arith, within, less)))
    ]
  ]

module _ {K V : Type 0} {hash : K → ℕ} {tag : ℕ → ℕ} {low : ℕ} {home : K → ℕ} {place first next : ℕ → ℕ} (p : ℕ) (es : List (ℕ × (K × V)))
    (l : IsLinked hash tag low nowhere home place first next (key_from (p + 1) es)) where
  -- a place without an item adds no key
  pub linked_skip : item_at p es ≡ None → IsLinked hash tag low nowhere home place first next (key_from p es)
  linked_skip none =
      keys_stay (key_from (p + 1) es) (key_from p es)
      (λ q. elim (cases_eq q p) [
        | inl e ↦
            let here : key_from p es p ≡ key_from (p + 1) es p =
            key_from-within p p es (omega arith) ∙ rw none refl ∙ sym (key_from-past (p + 1) p es (omega arith)) in
            subst (λ x. key_from p es x ≡ key_from (p + 1) es x) (sym e) here
        | inr n ↦ key_from-next p q es n
      ]) l

  -- an item's place is linked
  pub linked_more : (h n : ℕ) (i : K × V) → (p ≡ nowhere → ⊥) → item_at p es ≡ Some i → home i.0 ≡ h → place n ≡ p → tag n ≡ tag (hash i.0)
      → (n ≤ low → place (first h) ≡ nowhere) → (low < n → place (first h) ≡ nowhere → ⊥) → {first₁ next₁ first₂ next₂ : ℕ → ℕ}
      → IsRelinked first next h p (first h) first₁ next₁ → IsRelinked first₁ next₁ h nowhere n first₂ next₂
      → IsLinked hash tag low nowhere home place first₂ next₂ (key_from p es)
  linked_more h n i off held is named tagged last led one two =
      linked_first l h p n i.0 off (key_from-past (p + 1) p es (omega arith)) is named tagged last led one two (key_from p es)
      (key_from-within p p es (omega arith) ∙ rw held refl) (λ q d. key_from-next p q es d)

-- from place 0 on these are all keys
pub linked_whole : {K V : Type 0} {hash : K → ℕ} {tag : ℕ → ℕ} {low : ℕ} {home : K → ℕ} {place first next : ℕ → ℕ} (es : List (ℕ × (K × V)))
    → IsLinked hash tag low nowhere home place first next (key_from 0 es) → IsLinked hash tag low nowhere home place first next (key_at es)
linked_whole es l = keys_stay (key_from 0 es) (key_at es) (λ q. sym (key_from-within 0 q es (omega arith))) l
