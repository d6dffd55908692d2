-- The pairs of a list: what a look-up by key and a change at a place say of each other.
use Rattle.std.proofs.Common.{◌≡◌, ℕ, Bool, true, false, Some, None, List, [], ◌∷◌, ◌++◌, refl, sym, ap, ◌∙◌, subst, inl, inr}
use Rattle.std.proofs.lemmas.Bool.{cases_eq, cases_Bool, eq-eqb, ne_eqb}
use Rattle.std.proofs.lemmas.List.{map-append}
use Rattle.std.proofs.lemmas.Map.{NonePasses}
use Rattle.std.proofs.lemmas.Map.Entries.{none_past_head}
use Rattle.std.specs.Cmp.{IsEquivalence}
use Rattle.std.specs.List.{IsDistinct}
use Rattle.std.specs.Map.{keys_of, lookup, lookup_entry, remove_entry}
use Rattle.std.proofs.lemmas.Map.Keys.{IsDistinct-tail}
use Rattle.clru_model.specs.Entries.{demote, touch}
use Rattle.clru_model.proofs.Forms.{IsForm, form_is}
use Rattle.clru_list.specs.PlaceList.{item_at, with_at, without, IsApart}
use Rattle.clru_linked_map.specs.Buckets.{with_value, IsAt}
use Rattle.clru_linked_map.specs.IndexedList.{item_with}
use Rattle.clru_linked_map.specs.LinkedMap.{pairs_of}

module _ {K V X : Type 0} (eq : X → K → Bool) (x : X) where
  -- what a look-up of x gives where its pair stands at the place p
  pub record IsFoundAt (p : ℕ) (item : K × V) (es : List (ℕ × (K × V))) : Type 0 where
    pub entry : lookup_entry (eq x) (pairs_of es) ≡ Some (item.0, item.1)
    pub value : lookup (eq x) (pairs_of es) ≡ Some item.1
    pub removed : remove_entry (eq x) (pairs_of es) ≡ pairs_of (without p es)
    pub written : (v : V) → with_at p (item_with item v) es ≡ with_value (eq x) v es

  none_at : (p : ℕ) (es : List (ℕ × (K × V))) → NonePasses (eq x) (pairs_of es) → IsAt eq x p es → ⊥
  none_at p [] none at = let no = at.held in cc
  none_at p (e ∷ es) none at = elim (cases_eq p e.0) [
    | inl here ↦
        let item = at.item in let same = at.same in
        let is : e.1 ≡ item = let held : Some e.1 ≡ Some item = rw (eq-eqb p e.0 here) at at.held in cc in
        let no : eq x item.0 ≡ false = subst (λ (i : K × V). eq x i.0 ≡ false) is none.0 in cc
    | inr there ↦ none_at p es none.1 (record { item = at.item; held = rw (ne_eqb p e.0 there) at at.held; same = at.same })
  ]

  -- no later key passes, where the first does
  none_past_first : {same : K → K → Bool} → IsEquivalence same → IsForm same (eq x) → (e : K × V) (es : List (K × V))
      → IsDistinct same (keys_of (e ∷ es)) → eq x e.0 ≡ true → NonePasses (eq x) es
  none_past_first {same} laws form e es distinct passes =
      subst (λ test. NonePasses test es) (sym (form_is same (eq x) form e.0 passes)) (none_past_head laws e.0 e es distinct (laws.refl e.0))

  -- the pair that stands at a place is the one that a look-up gives
  pub found_at : {same : K → K → Bool} → IsEquivalence same → IsForm same (eq x) → (p : ℕ) (es : List (ℕ × (K × V)))
      → IsDistinct same (keys_of (pairs_of es)) → (at : IsAt eq x p es) → IsFoundAt p at.item es
  found_at laws form p [] distinct at = let no = at.held in cc
  found_at {same} laws form p (e ∷ es) distinct at = elim (cases_eq p e.0) [
    | inl here ↦
        let item = at.item in
        let is : e.1 ≡ item = let held : Some e.1 ≡ Some item = rw (eq-eqb p e.0 here) at at.held in cc in
        let passes : eq x e.1.0 ≡ true = subst (λ (i : K × V). eq x i.0 ≡ true) (sym is) at.same in
        record {
          entry = rw (passes, is) refl;
          value = rw (passes, is) refl;
          removed = rw (passes, eq-eqb p e.0 here) refl;
          written = λ v. rw (passes, eq-eqb p e.0 here) (ap (λ (i : K × V). (e.0, item_with i v) ∷ es) (sym is));
        }
    | inr there ↦
        let later : IsAt eq x p es = record { item = at.item; held = rw (ne_eqb p e.0 there) at at.held; same = at.same } in
        let apart : eq x e.1.0 ≡ false = elim (cases_Bool (eq x e.1.0)) [
          | inl t ↦ absurd (none_at p es (none_past_first laws form e.1 (pairs_of es) distinct t) later)
          | inr f ↦ f
        ] in
        let ih = found_at laws form p es (IsDistinct-tail same e.1.0 (keys_of (pairs_of es)) distinct) later in
        record {
          entry = rw apart ih.entry;
          value = rw apart ih.value;
          removed = rw (apart, ne_eqb p e.0 there) (ap (λ l. e.1 ∷ l) ih.removed);
          written = λ v. rw (apart, ne_eqb p e.0 there) (ap (λ l. e ∷ l) (ih.written v));
        }
  ]

  -- the same, by what stands there
  pub found_item : {same : K → K → Bool} → IsEquivalence same → IsForm same (eq x) → {p : ℕ} {es : List (ℕ × (K × V))}
      → IsDistinct same (keys_of (pairs_of es)) → IsAt eq x p es → (i : K × V) → item_at p es ≡ Some i → IsFoundAt p i es
  found_item laws form {p} {es} distinct at i held =
      let is : at.item ≡ i = let both : Some at.item ≡ Some i = sym at.held ∙ held in cc in
      subst (λ j. IsFoundAt p j es) is (found_at laws form p es distinct at)

  -- a found pair that comes first
  pub touch_found : {p : ℕ} {item : K × V} {es : List (ℕ × (K × V))} → IsFoundAt p item es
      → item ∷ pairs_of (without p es) ≡ touch eq x (pairs_of es)
  touch_found f = rw (f.entry, f.removed) refl

  -- a found pair that comes last
  pub demote_found : {p : ℕ} {item : K × V} {es : List (ℕ × (K × V))} → IsFoundAt p item es
      → pairs_of (without p es ++ (p, item) ∷ []) ≡ demote eq x (pairs_of es)
  demote_found {p} {item} {es} f =
      map-append (λ (e : ℕ × (K × V)). e.1) (without p es) ((p, item) ∷ []) ∙ rw (f.entry, f.removed) refl

  -- without a pair of x there is none to move or to take out
  pub none_removed : (es : List (K × V)) → lookup_entry (eq x) es ≡ None → remove_entry (eq x) es ≡ es
  none_removed [] none = refl
  none_removed (e ∷ es) none = elim (cases_Bool (eq x e.0)) [
    | inl t ↦ let no = rw t at none in cc
    | inr f ↦ rw f (ap (λ l. e ∷ l) (none_removed es (rw f at none)))
  ]

  -- a key that stands at no place is not found
  pub absent_from : (es : List (ℕ × (K × V))) → IsApart es → ((p : ℕ) → IsAt eq x p es → ⊥) → lookup_entry (eq x) (pairs_of es) ≡ None
  absent_from [] apart none = refl
  absent_from (e ∷ es) apart none =
      let here : eq x e.1.0 ≡ false = elim (cases_Bool (eq x e.1.0)) [
        | inl t ↦ absurd (none e.0 (record { item = e.1; held = rw (eq-eqb e.0 e.0 refl) refl; same = t }))
        | inr f ↦ f
      ] in
      rw here (absent_from es apart.1 (λ p at. elim (cases_eq p e.0) [
        | inl same ↦ let no : Some at.item ≡ None = sym at.held ∙ rw same apart.0 in cc
        | inr there ↦ none p (record { item = at.item; held = rw (ne_eqb p e.0 there) at.held; same = at.same })
      ]))

  -- without an entry there is no value
  pub no_value : (es : List (K × V)) → lookup_entry (eq x) es ≡ None → lookup (eq x) es ≡ None
  no_value [] none = refl
  no_value (e ∷ es) none = elim (cases_Bool (eq x e.0)) [
    | inl t ↦ let no = rw t at none in cc
    | inr f ↦ rw f (no_value es (rw f at none))
  ]
