-- What a look-up of the entries found, in the words of maps.
use Rattle.std.proofs.Common.{◌≡◌, ℕ, suc, ◌+◌, ◌-◌, Bool, true, false, List, [], ◌∷◌, length, take, Option, Some, None, is_some, slice_get, refl, sym, ap, ◌∙◌, arith}
use Rattle.std.specs.Map.{lookup, lookup_entry, remove_entry, set_value}
use Rattle.std.specs.Option.{option_map}
use Rattle.std.proofs.lemmas.List.Sums.{sum_by-cons}
use Rattle.clru_model.specs.Entries.{touch, plain_put, weight_of, with_front}
use Rattle.clru_model.proofs.Cases.{split}

module _ {K V : Type 0} (test : K → Bool) where
  -- the first entry whose key passes
  pub record IsHeld (es : List (K × V)) : Type 0 where
    pub entry : K × V
    pub passes : test entry.0 ≡ true
    pub looked_up : lookup_entry test es ≡ Some entry
    pub value : lookup test es ≡ Some entry.1
    pub shorter : suc (length (remove_entry test es)) ≡ length es

  -- no key passes
  pub record IsMissed (es : List (K × V)) : Type 0 where
    pub looked_up : lookup_entry test es ≡ None
    pub value : lookup test es ≡ None
    pub removed : remove_entry test es ≡ es

  held_entry : (es : List (K × V)) (e : K × V) → lookup_entry test es ≡ Some e → IsHeld es
  held_entry [] e h = cc
  held_entry (d ∷ es) e h = split (test d.0)
      (λ t. record { entry = d; passes = t; looked_up = rw t refl; value = rw t refl; shorter = rw t refl })
      (λ f. let rest = held_entry es e (rw f at h) in record {
        entry = rest.entry;
        passes = rest.passes;
        looked_up = rw f rest.looked_up;
        value = rw f rest.value;
        shorter = rw f (ap suc rest.shorter);
      })

  missed_entry : (es : List (K × V)) → lookup_entry test es ≡ None → IsMissed es
  missed_entry [] h = record { looked_up = refl; value = refl; removed = refl }
  missed_entry (d ∷ es) h = split (test d.0) (λ t. let no : Some d ≡ None = rw t at h in cc)
      (λ f. let rest = missed_entry es (rw f at h) in record {
        looked_up = rw f rest.looked_up;
        value = rw f rest.value;
        removed = rw f (ap (λ l. d ∷ l) rest.removed);
      })

  -- a search finds an entry where it finds a value
  pub is_some-lookup_entry : (es : List (K × V)) → is_some (lookup_entry test es) ≡ is_some (lookup test es)
  is_some-lookup_entry [] = refl
  is_some-lookup_entry (e ∷ es) = split (test e.0) (λ t. rw t refl) (λ f. rw f (is_some-lookup_entry es))

  -- what a look-up of the entry tells
  pub held_at : {es : List (K × V)} {e : K × V} → Some e ≡ lookup_entry test es → IsHeld es
  held_at {es} {e} h = held_entry es e (sym h)

  pub missed_at : {es : List (K × V)} → None ≡ lookup_entry test es → IsMissed es
  missed_at {es} h = missed_entry es (sym h)

  -- it is the entry
  pub held_is : {es : List (K × V)} {e : K × V} → (h : IsHeld es) → Some e ≡ lookup_entry test es → e ≡ h.entry
  held_is h found = let same = found ∙ h.looked_up in cc

  -- what a test whether there is a value tells
  pub held : {es : List (K × V)} → true ≡ is_some (lookup test es) → IsHeld es
  held {es} h = (elim (lookup_entry test es) as (λ o. lookup_entry test es ≡ o → is_some o ≡ true → IsHeld es) [
    | None ↦ λ e no. cc
    | Some d ↦ λ e yes. held_entry es d e
  ]) refl (is_some-lookup_entry es ∙ sym h)

  pub missed : {es : List (K × V)} → false ≡ is_some (lookup test es) → IsMissed es
  missed {es} h = (elim (lookup_entry test es) as (λ o. lookup_entry test es ≡ o → is_some o ≡ false → IsMissed es) [
    | None ↦ λ e none. missed_entry es e
    | Some d ↦ λ e no. cc
  ]) refl (is_some-lookup_entry es ∙ sym h)

  -- the entry that is found takes its weight with it
  weight_of_found : (weight : K → V → ℕ) (es : List (K × V)) (e : K × V) → lookup_entry test es ≡ Some e
      → weight_of weight (remove_entry test es) + weight e.0 e.1 ≡ weight_of weight es
  weight_of_found weight [] e h = cc
  weight_of_found weight (d ∷ es) e h =
      let cons : weight_of weight (d ∷ es) ≡ weight d.0 d.1 + weight_of weight es = sum_by-cons (λ (x : K × V). weight x.0 x.1) d es in
      split (test d.0)
      (λ t. let first : Some d ≡ Some e = rw t at h in let same : d ≡ e = cc in
      rw t (let w : weight e.0 e.1 ≡ weight d.0 d.1 = ap (λ (x : K × V). weight x.0 x.1) (sym same) in omega (arith, cons, w)))
      (λ f. let later = weight_of_found weight es e (rw f at h) in
      let rest : weight_of weight (d ∷ remove_entry test es) ≡ weight d.0 d.1 + weight_of weight (remove_entry test es) =
      sum_by-cons (λ (x : K × V). weight x.0 x.1) d (remove_entry test es) in
      rw f (omega (arith, cons, rest, later)))

  pub weight_of-held : (weight : K → V → ℕ) {es : List (K × V)} → (h : IsHeld es)
      → weight_of weight (remove_entry test es) + weight h.entry.0 h.entry.1 ≡ weight_of weight es
  weight_of-held weight {es} h = weight_of_found weight es h.entry h.looked_up

module _ {K V X : Type 0} (eq : X → K → Bool) (x : X) {es : List (K × V)} where
  pub touch-missed : IsMissed (eq x) es → touch eq x es ≡ es
  touch-missed m = rw m.looked_up refl

  pub touch-held : (h : IsHeld (eq x) es) → touch eq x es ≡ h.entry ∷ remove_entry (eq x) es
  touch-held h = rw h.looked_up refl

  -- a touched list with another value in front
  pub with_front-touch : (h : IsHeld (eq x) es) → (v : V) → with_front v (touch eq x es) ≡ (h.entry.0, v) ∷ remove_entry (eq x) es
  with_front-touch h v = ap (with_front v) (touch-held h)

  -- which is what is written at x, where it has come first
  pub with_front-set_value : (h : IsHeld (eq x) es) → (v : V) → with_front v (touch eq x es) ≡ set_value (eq x) (touch eq x es) v
  with_front-set_value h v = rw (h.looked_up, h.passes) refl

  -- the first value of a touched list is the one that is found
  pub first_touched : {fs : List (K × V)} {o : Option (K × V)} → IsHeld (eq x) es → fs ≡ touch eq x es → o ≡ slice_get fs 0
      → option_map (λ (e : K × V). e.1) o ≡ lookup (eq x) es
  first_touched h same first = rw (first, same, h.looked_up, h.value) refl

module _ {K V : Type 0} (eq : K → K → Bool) (x : K) {es : List (K × V)} where
  pub plain_put-missed : IsMissed (eq x) es → (c : ℕ) (v : V) → plain_put eq c x v es ≡ (x, v) ∷ take (c - 1) es
  plain_put-missed m c v = rw m.looked_up refl

  pub plain_put-held : (h : IsHeld (eq x) es) → (c : ℕ) (v : V) → plain_put eq c x v es ≡ (h.entry.0, v) ∷ remove_entry (eq x) es
  plain_put-held h c v = rw h.looked_up refl
