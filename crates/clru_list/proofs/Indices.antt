-- The places of a list by their numbers, and what stands beside them.
use Rattle.std.proofs.Common.{◌≡◌, ℕ, zero, suc, ◌+◌, ◌-◌, ◌<◌, ◌≤◌, List, [], ◌∷◌, length, Option, Some, None, IfSome, slice_get, refl, sym, ap, ◌∙◌, arith}
use Rattle.std.specs.Map.{keys_of}
use Rattle.std.proofs.lemmas.Bool.{eq-eqb}
use Rattle.std.proofs.lemmas.List.{length-map}
use Rattle.std.proofs.lemmas.Option.{slice_get_within}
use Rattle.clru_list.specs.PlaceList.{IsApart, place_after, place_before}
use Rattle.clru_list.proofs.Windows.{entry_at, place_at, place_after-entry, place_before_from-entry}

points : (found : Option ℕ) {stands : Option ℕ} → found ≡ stands → IfSome found (λ q. stands ≡ Some q)
points None same = tt
points (Some q) same = sym same

module _ {T : Type 0} where
  -- the entry at a place with an index
  pub entry-of : (es : List (ℕ × T)) (k p : ℕ) → slice_get (keys_of es) k ≡ Some p → (x : T) × (slice_get es k ≡ Some (p, x))
  entry-of es k p at =
      let within = slice_get_within (keys_of es) k p at in
      let found = entry_at es k (omega (arith, within, length-map es (λ (e : ℕ × T). e.0))) in
      let both : Some found.0.0 ≡ Some p = sym (place_at es k found.0 found.1) ∙ at in
      let same : found.0.0 ≡ p = cc in
      (found.0.1, found.1 ∙ ap (λ q. Some (q, found.0.1)) same)

  -- behind it stands the next index
  pub place_after-at : (es : List (ℕ × T)) (k p : ℕ) → IsApart es → slice_get (keys_of es) k ≡ Some p → place_after p es ≡ slice_get (keys_of es) (k + 1)
  place_after-at es k p apart at =
      let e = entry-of es k p at in let next : suc k ≡ k + 1 = omega arith in
      place_after-entry es k (p, e.0) apart e.1 ∙ ap (slice_get (keys_of es)) next

  -- before it the index below
  pub place_before-at : (es : List (ℕ × T)) (k p : ℕ) → IsApart es → 0 < k → slice_get (keys_of es) k ≡ Some p
      → place_before p es ≡ slice_get (keys_of es) (k - 1)
  place_before-at es k p apart more at =
      let e = entry-of es k p at in let next : k ≡ suc (k - 1) = omega (arith, more) in
      place_before_from-entry None es (k - 1) (p, e.0) apart (ap (slice_get es) (sym next) ∙ e.1)

  -- and before the first none
  pub place_before-first : (es : List (ℕ × T)) (p : ℕ) → slice_get (keys_of es) 0 ≡ Some p → place_before p es ≡ None
  place_before-first [] p at = cc
  place_before-first (e ∷ es) p at = let same : e.0 ≡ p = cc in rw (eq-eqb p e.0 (sym same)) refl

  -- so much for a finger that goes on from there, either way
  pub after-points : (es : List (ℕ × T)) (k p : ℕ) → IsApart es → slice_get (keys_of es) k ≡ Some p
      → IfSome (place_after p es) (λ q. slice_get (keys_of es) (k + 1) ≡ Some q)
  after-points es k p apart at = points (place_after p es) (place_after-at es k p apart at)

  pub before-points : (es : List (ℕ × T)) (k p : ℕ) → IsApart es → slice_get (keys_of es) k ≡ Some p
      → IfSome (place_before p es) (λ q. slice_get (keys_of es) (k - 1) ≡ Some q)
  before-points es zero p apart at = rw (place_before-first es p at) tt
  before-points es (suc k) p apart at = points (place_before p es) (place_before-at es (suc k) p apart (omega arith) at)

-- past an index that nothing has, nothing is
pub none-past : {X : Type 0} (xs : List X) (j k : ℕ) → slice_get xs j ≡ None → j ≤ k → slice_get xs k ≡ None
none-past [] j k none le = refl
none-past (x ∷ xs) zero k none le = cc
none-past (x ∷ xs) (suc j) zero none le = absurd (omega (arith, le))
none-past (x ∷ xs) (suc j) (suc k) none le = none-past xs j k none (omega (arith, le))

-- within the length there is something
pub none-within : {X : Type 0} (xs : List X) (k : ℕ) → k < length xs → slice_get xs k ≡ None → ⊥
none-within [] k within none = omega (arith, within)
none-within (x ∷ xs) zero within none = cc
none-within (x ∷ xs) (suc k) within none = none-within xs k (omega (arith, within)) none
