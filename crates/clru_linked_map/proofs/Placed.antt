-- The entries of a list: what stands at a place once one is written, taken out or put in.
use Rattle.std.proofs.Common.{◌≡◌, ◌<◌, ℕ, suc, ◌==◌, ◌≤◌, Bool, true, false, cond, Option, Some, None, IsSome, List, [], ◌∷◌, length, refl, sym, ap, ◌∙◌, subst, arith, inl, inr}
use Rattle.std.proofs.lemmas.Bool.{cases_eq, eq-eqb, ne_eqb}
use Rattle.clru_list.specs.PlaceList.{PlaceList, item_at, without, with_at, IsApart, IsValid}
use Rattle.clru_list.specs.Places.{nowhere}
use Rattle.clru_linked_map.specs.Buckets.{IsLive}
use Rattle.clru_linked_map.specs.LinkedMap.{pairs_of}

module _ {T : Type 0} where
  -- an item that is written stands at its place, and the others where they stood
  pub item_at-with_at : (p q : ℕ) (w : T) (es : List (ℕ × T)) (i : T) → item_at p es ≡ Some i
      → item_at q (with_at p w es) ≡ cond (p == q) (Some w) (item_at q es)
  item_at-with_at p q w [] i held = cc
  item_at-with_at p q w (e ∷ es) i held = elim (cases_eq p e.0) [
    | inl here ↦ elim (cases_eq p q) [
      | inl same ↦ rw (eq-eqb p e.0 here, eq-eqb p q same, eq-eqb q e.0 (sym same ∙ here)) refl
      | inr apart ↦ rw (eq-eqb p e.0 here, ne_eqb p q apart, ne_eqb q e.0 (λ h. apart (here ∙ sym h))) refl
    ]
    | inr there ↦
        let later = rw (ne_eqb p e.0 there) at held in let ih = item_at-with_at p q w es i later in elim (cases_eq p q) [
          | inl same ↦ rw (ne_eqb p e.0 there, ne_eqb q e.0 (λ h. there (same ∙ h))) ih
          | inr apart ↦
              rw (ne_eqb p e.0 there, ne_eqb p q apart) (ap (λ (o : Option T). cond (q == e.0) (Some e.1) o) (ih ∙ rw (ne_eqb p q apart) refl))
        ]
  ]

  -- an item that is taken out is gone, and the others stand where they stood
  pub item_at-without : (p q : ℕ) (es : List (ℕ × T)) → IsApart es → item_at q (without p es) ≡ cond (p == q) None (item_at q es)
  item_at-without p q [] apart =
      let none : Option T = None in elim (p == q) as (λ b. none ≡ cond b none none) [ true ↦ refl | false ↦ refl ]
  item_at-without p q (e ∷ es) apart = elim (cases_eq p e.0) [
    | inl here ↦ elim (cases_eq p q) [
      | inl same ↦ rw (eq-eqb p e.0 here, eq-eqb p q same) (subst (λ x. item_at x es ≡ None) (sym here ∙ same) apart.0)
      | inr other ↦ rw (eq-eqb p e.0 here, ne_eqb p q other, ne_eqb q e.0 (λ h. other (here ∙ sym h))) refl
    ]
    | inr there ↦
        let ih = item_at-without p q es apart.1 in elim (cases_eq p q) [
          | inl same ↦ rw (ne_eqb p e.0 there, ne_eqb q e.0 (λ h. there (same ∙ h))) ih
          | inr other ↦
              rw (ne_eqb p e.0 there, ne_eqb p q other) (ap (λ (o : Option T). cond (q == e.0) (Some e.1) o) (ih ∙ rw (ne_eqb p q other) refl))
        ]
  ]

  pub length-without : (p : ℕ) (es : List (ℕ × T)) → length (without p es) ≤ length es
  length-without p [] = omega arith
  length-without p (e ∷ es) = let ih = length-without p es in elim (p == e.0) as (λ b. length (cond b es (e ∷ without p es)) ≤ suc (length es)) [
    | true ↦ omega arith
    | false ↦ omega (arith, ih)
  ]

  -- and the entries are one less
  pub length-without_held : (p : ℕ) (es : List (ℕ × T)) (i : T) → item_at p es ≡ Some i → suc (length (without p es)) ≡ length es
  length-without_held p [] i held = cc
  length-without_held p (e ∷ es) i held = elim (cases_eq p e.0) [
    | inl here ↦ rw (eq-eqb p e.0 here) refl
    | inr there ↦ rw (ne_eqb p e.0 there) (ap suc (length-without_held p es i (rw (ne_eqb p e.0 there) at held)))
  ]

  -- a list that does not tell that it is full has room
  pub room_left : (l : PlaceList T) (r : Bool) → (length l.entries ≡ l.capacity → r ≡ true) → r ≡ false → IsValid l
      → length l.entries < l.capacity
  room_left l r tells silent valid =
      let not_full : length l.entries ≡ l.capacity → ⊥ = λ e. let yes = tells e in cc in omega (arith, not_full, valid.fits)

module _ {K V : Type 0} where
  -- there are as many pairs as entries
  pub length-pairs : (es : List (ℕ × (K × V))) → length (pairs_of es) ≡ length es
  length-pairs [] = refl
  length-pairs (e ∷ es) = ap suc (length-pairs es)

  -- an item stands below the number of places
  pub live_below : (l : PlaceList (K × V)) → IsValid l → (p : ℕ) → IsLive l.entries p → p < l.places
  live_below l valid p live = let there : IsSome (item_at p l.entries) = rw live.1 refl in valid.below p there

  -- no item stands at the start
  pub none_at_start : (l : PlaceList (K × V)) → IsValid l → IsLive l.entries nowhere → ⊥
  none_at_start l valid live = omega (arith, live_below l valid nowhere live, valid.countable)
