-- The first and the last place of a list, and the pairs there.
use Rattle.std.proofs.Common.{◌≡◌, ℕ, ◌-◌, ◌<◌, Option, Some, None, List, [], ◌∷◌, ◌++◌, length, take, refl, sym, ap, ◌∙◌, subst, arith, inl, inr}
use Rattle.std.proofs.lemmas.Bool.{cases_eq, eq-eqb, ne_eqb}
use Rattle.std.specs.List.{slice_get}
use Rattle.std.specs.Option.{option_map}
use Rattle.clru_model.proofs.Ends.{last_of}
use Rattle.clru_list.specs.PlaceList.{item_at, without, first_place, last_entry, last_entry_from, last_place, IsApart}
use Rattle.clru_linked_map.specs.Buckets.{IsLive}
use Rattle.clru_linked_map.specs.LinkedMap.{pairs_of}

module _ {K V : Type 0} where
  -- the first place holds something
  pub live_first : (p : ℕ) (es : List (ℕ × (K × V))) → first_place es ≡ Some p → IsLive es p
  live_first p [] first = cc
  live_first p (e ∷ es) first = let here : Some e.0 ≡ Some p = first in let same : p ≡ e.0 = cc in (e.1, rw (eq-eqb p e.0 same) refl)

  -- a place that holds something is one of some
  pub some_live : (p : ℕ) (es : List (ℕ × (K × V))) → IsLive es p → 0 < length es
  some_live p [] live = let no = live.1 in cc
  some_live p (e ∷ es) live = omega arith

  last_from : (d : ℕ × (K × V)) (es : List (ℕ × (K × V)))
      → (front : List (ℕ × (K × V))) × (e : ℕ × (K × V)) × (d ∷ es ≡ front ++ e ∷ []) × (last_entry_from (Some d) es ≡ Some e)
  last_from d [] = ([], d, refl, refl)
  last_from d (x ∷ xs) = let (front, e, split, last) = last_from x xs in (d ∷ front, e, ap (λ l. d ∷ l) split, last)

  -- a last place, and what stands before it
  pub record IsLastAt (p : ℕ) (es : List (ℕ × (K × V))) : Type 0 where
    pub front : List (ℕ × (K × V))
    pub item : K × V
    pub split : es ≡ front ++ (p, item) ∷ []

  pub last_at : (p : ℕ) (es : List (ℕ × (K × V))) → last_place es ≡ Some p → IsLastAt p es
  last_at p [] last = cc
  last_at p (d ∷ es) last =
      let (front, e, split, is) = last_from d es in
      let here : Some e.0 ≡ Some p = sym (ap (λ (o : Option (ℕ × (K × V))). option_map (λ (x : ℕ × (K × V)). x.0) o) is) ∙ last in
      let same : e.0 ≡ p = cc in
      record { front = front; item = e.1; split = split ∙ ap (λ x. front ++ (x, e.1) ∷ []) same }

  no_last : (d : ℕ × (K × V)) (es : List (ℕ × (K × V))) → last_place (d ∷ es) ≡ None → ⊥
  no_last d es none =
      let (front, e, split, is) = last_from d es in
      let no : Some e.0 ≡ None = sym (ap (λ (o : Option (ℕ × (K × V))). option_map (λ (x : ℕ × (K × V)). x.0) o) is) ∙ none in cc

  -- where there is no last place there is nothing
  pub none_at_last : (es : List (ℕ × (K × V))) → last_place es ≡ None → es ≡ []
  none_at_last [] none = refl
  none_at_last (d ∷ es) none = absurd (no_last d es none)

  not_before : (p : ℕ) (i : K × V) (front : List (ℕ × (K × V))) → IsApart (front ++ (p, i) ∷ []) → item_at p front ≡ None
  not_before p i [] apart = refl
  not_before p i (e ∷ front) apart = elim (cases_eq p e.0) [
    | inl here ↦ absurd (later e.0 front apart.0 here)
    | inr there ↦ rw (ne_eqb p e.0 there) (not_before p i front apart.1)
  ] where
    later : (q : ℕ) (front : List (ℕ × (K × V))) → item_at q (front ++ (p, i) ∷ []) ≡ None → p ≡ q → ⊥
    later q [] none same = let no = rw (eq-eqb q p (sym same)) at none in cc
    later q (x ∷ xs) none same = elim (cases_eq q x.0) [
      | inl e ↦ let no = rw (eq-eqb q x.0 e) at none in cc
      | inr n ↦ later q xs (rw (ne_eqb q x.0 n) at none) same
    ]

  without_last : (p : ℕ) (i : K × V) (front : List (ℕ × (K × V))) → item_at p front ≡ None
      → (item_at p (front ++ (p, i) ∷ []) ≡ Some i) × (without p (front ++ (p, i) ∷ []) ≡ front)
  without_last p i [] none = (rw (eq-eqb p p refl) refl, rw (eq-eqb p p refl) refl)
  without_last p i (e ∷ front) none = elim (cases_eq p e.0) [
    | inl here ↦ let no = rw (eq-eqb p e.0 here) at none in cc
    | inr there ↦
        let ih = without_last p i front (rw (ne_eqb p e.0 there) at none) in
        (rw (ne_eqb p e.0 there) ih.0, rw (ne_eqb p e.0 there) (ap (λ l. e ∷ l) ih.1))
  ]

  -- the last place holds its item, and the others are left without it
  pub held_last : {p : ℕ} {es : List (ℕ × (K × V))} → IsApart es → (l : IsLastAt p es) → (item_at p es ≡ Some l.item) × (without p es ≡ l.front)
  held_last {p} {es} apart l =
      let both = without_last p l.item l.front (not_before p l.item l.front (subst (λ x. IsApart x) l.split apart)) in
      (ap (λ x. item_at p x) l.split ∙ both.0, ap (λ x. without p x) l.split ∙ both.1)

  pairs_last : (p : ℕ) (i : K × V) (front : List (ℕ × (K × V)))
      → pairs_of (front ++ (p, i) ∷ []) ≡ pairs_of front ++ i ∷ []
  pairs_last p i [] = refl
  pairs_last p i (e ∷ front) = ap (λ l. e.1 ∷ l) (pairs_last p i front)

module _ {K V : Type 0} where
  -- the last pair, and the pairs before it
  pub last_pair : {p : ℕ} {es : List (ℕ × (K × V))} → (l : IsLastAt p es)
      → (slice_get (pairs_of es) (length (pairs_of es) - 1) ≡ Some l.item) × (take (length (pairs_of es) - 1) (pairs_of es) ≡ pairs_of l.front)
  last_pair {p} {es} l =
      let is : pairs_of es ≡ pairs_of l.front ++ l.item ∷ [] = ap (λ x. pairs_of x) l.split ∙ pairs_last p l.item l.front in
      rw is (last_of l.item (pairs_of l.front))

  last_from_pair : (d : ℕ × (K × V)) (es : List (ℕ × (K × V)))
      → (option_map (λ (e : ℕ × (K × V)). e.1) (last_entry_from (Some d) es))
      ≡ slice_get (pairs_of (d ∷ es)) (length (pairs_of es))
  last_from_pair d [] = refl
  last_from_pair d (e ∷ es) = last_from_pair e es

  -- the last item has the last pair
  pub last_item_pair : (es : List (ℕ × (K × V))) {o : Option (K × V)} → o ≡ option_map (λ (e : ℕ × (K × V)). e.1) (last_entry es)
      → o ≡ slice_get (pairs_of es) (length (pairs_of es) - 1)
  last_item_pair [] is = rw is refl
  last_item_pair (e ∷ es) is = let n : length (pairs_of (e ∷ es)) - 1 ≡ length (pairs_of es) = omega arith in rw (is, n) (last_from_pair e es)

  -- some list has a last item
  pub no_last_item : (es : List (ℕ × (K × V))) → None ≡ option_map (λ (e : ℕ × (K × V)). e.1) (last_entry es) → 0 < length (pairs_of es) → ⊥
  no_last_item [] is some = omega (arith, some)
  no_last_item (d ∷ es) is some =
      let (front, e, split, last) = last_from d es in
      let no : None ≡ Some e.1 = is ∙ ap (λ (o : Option (ℕ × (K × V))). option_map (λ (x : ℕ × (K × V)). x.1) o) last in cc
