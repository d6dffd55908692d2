-- What look-ups and the number of entries say after a touch, a removal and a put.
use Rattle.std.proofs.Common.{◌≡◌, ℕ, suc, ◌+◌, ◌-◌, ◌<◌, ◌≤◌, Bool, true, cond, List, [], ◌∷◌, length, take, Option, Some, None, is_some, slice_get}
use Rattle.std.proofs.Common.{refl, sym, ap, ◌∙◌, inl, inr, arith, take_all, length-take}
use Rattle.std.specs.Cmp.{IsEquivalence}
use Rattle.std.specs.List.{IsDistinct}
use Rattle.std.specs.Map.{keys_of, lookup, lookup_entry, remove_entry, set_value}
use Rattle.std.specs.Option.{option_map_or}
use Rattle.std.proofs.lemmas.Map.{lookup-remove_entry}
use Rattle.std.proofs.lemmas.Option.{slice_get_cases}
use Rattle.clru_model.specs.Entries.{without, touch, plain_put, plain_drop}
use Rattle.clru_model.proofs.Cases.{split}
use Rattle.clru_model.proofs.Sublists.{sublist_remove_entry, lookup-sublist}
use Rattle.clru_model.proofs.Finding.{IsHeld, IsMissed, held, held_at, missed_at, touch-held, touch-missed, plain_put-held, plain_put-missed}
use Rattle.clru_model.proofs.Finding.{with_front-touch, with_front-set_value}

-- by a key or a form of it
module _ {X K V : Type 0} (eq : X → K → Bool) where
  -- a key is held or not
  pub by_entry : {G : Type 0} (x : X) (es : List (K × V)) → (IsHeld (eq x) es → G) → (IsMissed (eq x) es → G) → G
  by_entry {G} x es held missed = (elim (lookup_entry (eq x) es) as (λ o. lookup_entry (eq x) es ≡ o → G) [
    | None ↦ λ h. missed (missed_at (eq x) (sym h))
    | Some e ↦ λ h. held (held_at (eq x) (sym h))
  ]) refl

  -- a touch leaves the number of entries
  pub length-touch : (x : X) (es : List (K × V)) → length (touch eq x es) ≡ length es
  length-touch x es = by_entry x es (λ h. ap length (touch-held eq x h) ∙ h.shorter) (λ m. ap length (touch-missed eq x m))

  -- a removal takes one off, where the key is held
  pub length-without : (x : X) (es : List (K × V)) → length (without eq x es) + cond (is_some (lookup (eq x) es)) 1 0 ≡ length es
  length-without x es = by_entry x es
      (λ h. rw h.value (omega (arith, h.shorter)))
      (λ m. rw (m.value, m.removed) (omega arith))

  -- a key that is not held is not held after a removal
  pub missed-without : (x q : X) (es : List (K × V)) → lookup (eq q) es ≡ None → lookup (eq q) (without eq x es) ≡ None
  missed-without x q es = lookup-sublist (eq q) (sublist_remove_entry (eq x) es)

module _ {K V : Type 0} (eq : K → K → Bool) where
  new_entry : (c : ℕ) (es : List (K × V)) → length es ≤ c → 0 < c
      → suc (length (take (c - 1) es)) + cond (is_some (slice_get es (c - 1))) 1 0 ≡ length es + 1
  new_entry c es fits some = elim (slice_get_cases es (c - 1)).1 [
    | inl last ↦ rw last.2 (omega (arith, last.1, length-take (c - 1) es))
    | inr free ↦ rw (free.1, take_all (c - 1) es free.0) (omega arith)
  ]

  -- a plain put adds one where it replaces no value, and takes one off where it drops a pair
  pub length-plain_put : (c : ℕ) (x : K) (v : V) (es : List (K × V)) → length es ≤ c → 0 < c
      → length (plain_put eq c x v es) + cond (is_some (plain_drop eq c x es)) 1 0 ≡ length es + cond (is_some (lookup (eq x) es)) 0 1
  length-plain_put c x v es fits some = by_entry eq x es
      (λ h. rw (plain_put-held eq x h c v, h.value) (omega (arith, h.shorter)))
      (λ m. rw (plain_put-missed eq x m c v, m.value) (new_entry c es fits some))

  -- no entry goes where none is last
  keeps_all : (c : ℕ) (es : List (K × V)) → slice_get es (c - 1) ≡ None → take (c - 1) es ≡ es
  keeps_all c es none = elim (slice_get_cases es (c - 1)).1 [
    | inl last ↦ let no = sym none ∙ last.2 in cc
    | inr free ↦ take_all (c - 1) es free.0
  ]

-- once x is removed it is not held
pub lookup-without : {K V : Type 0} {eq : K → K → Bool} → IsEquivalence eq → (x : K) (es : List (K × V)) → IsDistinct eq (keys_of es)
    → lookup (eq x) (remove_entry (eq x) es) ≡ None
lookup-without {eq = eq} laws x es d = lookup-remove_entry laws (eq x) (λ y z h. laws.congr x y z h) x es d ∙ rw (laws.refl x) refl

module _ {K V : Type 0} {eq : K → K → Bool} (laws : IsEquivalence eq) where
  -- keys that are the same have the same value
  pub lookup-same : (x q : K) → eq x q ≡ true → (es : List (K × V)) → lookup (eq q) es ≡ lookup (eq x) es
  lookup-same x q same [] = refl
  lookup-same x q same (e ∷ es) = rw (laws.congr x q e.0 same, lookup-same x q same es) refl

  -- a key is the same as an entry's where it is the same as the key that found it
  found_by : (x q : K) {es : List (K × V)} → (h : IsHeld (eq x) es) → eq q h.entry.0 ≡ eq x q
  found_by x q h = laws.symm q h.entry.0 ∙ sym (laws.congr x h.entry.0 q h.passes)

  module _ (x q : K) (es : List (K × V)) (distinct : IsDistinct eq (keys_of es)) where
    -- after a removal
    pub lookup-removed : lookup (eq q) (without eq x es) ≡ cond (eq x q) None (lookup (eq q) es)
    lookup-removed = lookup-remove_entry laws (eq x) (λ y z h. laws.congr x y z h) q es distinct

    -- after an entry of x came first, with a value of its own
    put_first : (h : IsHeld (eq x) es) → (v : V) → lookup (eq q) ((h.entry.0, v) ∷ without eq x es) ≡ cond (eq x q) (Some v) (lookup (eq q) es)
    put_first h v = split (eq x q) (λ t. rw (found_by x q h, t) refl) (λ f. rw (found_by x q h, lookup-removed, f) refl)

    -- after a touch each key has the value that it had
    pub lookup-touch : lookup (eq q) (touch eq x es) ≡ lookup (eq q) es
    lookup-touch = by_entry eq x es
        (λ h. ap (lookup (eq q)) (touch-held eq x h) ∙ put_first h h.entry.1
        ∙ split (eq x q) (λ t. rw t (sym (lookup-same x q t es ∙ h.value))) (λ f. rw f refl))
        (λ m. ap (lookup (eq q)) (touch-missed eq x m))

    -- after a plain put that drops none, the key has the new value, and each other key the value that it had
    pub lookup-put_beside : (c : ℕ) (v : V) → plain_drop eq c x es ≡ None
        → lookup (eq q) (plain_put eq c x v es) ≡ cond (eq x q) (Some v) (lookup (eq q) es)
    lookup-put_beside c v none = by_entry eq x es
        (λ h. ap (lookup (eq q)) (plain_put-held eq x h c v) ∙ put_first h v)
        (λ m. ap (lookup (eq q)) (plain_put-missed eq x m c v) ∙ rw (laws.symm q x, keeps_all eq c es (rw m.value at none))
        (split (eq x q) (λ t. rw t refl) (λ f. rw f refl)))

-- the key of the entry that a search finds passes the test
passes : {K V : Type 0} (test : K → Bool) (es : List (K × V)) (e : K × V) → lookup_entry test es ≡ Some e → test e.0 ≡ true
passes test [] e h = cc
passes test (f ∷ es) e h = split
    (test f.0)
    (λ t. let same : Some f ≡ Some e = rw t at h in let first : f ≡ e = cc in rw (← first) t)
    (λ t. passes test es e (rw t at h))

module _ {K V : Type 0} (eq : K → K → Bool) (laws : IsEquivalence eq) (c : ℕ) (x : K) (v : V) (es : List (K × V)) where
  put_at : (o : Option (K × V)) → lookup_entry (eq x) es ≡ o
      → lookup (eq x) (option_map_or (λ e. (e.0, v) ∷ remove_entry (eq x) es) o ((x, v) ∷ take (c - 1) es)) ≡ Some v
  put_at None h = rw (laws.refl x) refl
  put_at (Some e) h = rw (passes (eq x) es e h) refl

  -- after a plain put the key has the new value
  pub lookup-plain_put : lookup (eq x) (plain_put eq c x v es) ≡ Some v
  lookup-plain_put = put_at (lookup_entry (eq x) es) refl

-- where a key is found, what is written to its value, once its entry has come first, is found
pub lookup-lent : {X K V : Type 0} (eq : X → K → Bool) (x : X) (es : List (K × V)) {w : V} → Some w ≡ lookup (eq x) es → (v : V)
    → lookup (eq x) (set_value (eq x) (touch eq x es) v) ≡ Some v
lookup-lent eq x es found v =
    let h = held (eq x) (ap is_some found) in
    ap (λ l. lookup (eq x) l) (sym (with_front-set_value eq x h v) ∙ with_front-touch eq x h v) ∙ rw h.passes refl
