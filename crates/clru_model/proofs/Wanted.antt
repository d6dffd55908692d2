-- The keys held that the next requests want, and what a request changes of their number.
use Rattle.std.proofs.Common.{◌≡◌, ℕ, suc, ◌+◌, ◌≤◌, Bool, true, false, cond, not, ◌&&◌, ◌⊎◌}
use Rattle.std.proofs.Common.{List, [], ◌∷◌, length, take, refl, ◌∙◌, arith}
use Rattle.std.proofs.lemmas.Bool.{and_parts}
use Rattle.std.specs.Cmp.{IsEquivalence}
use Rattle.std.specs.List.{filter}
use Rattle.clru_model.specs.Requests.{holds, distinct}
use Rattle.clru_model.proofs.Distinct.{distinct-le-length}
use Rattle.clru_model.proofs.Cases.{split}
use Rattle.clru_model.proofs.Distinct.{others, holds-others, holds_same, distinct_by_key, distinct_mono}

module _ {K : Type 0} (eq : K → K → Bool) where
  -- of some requests those whose key is held
  abbrev pub asked : List K → List K → List K
  asked ks rs = filter (λ y. holds eq y ks) rs

  -- how many distinct keys of the next d requests are held
  abbrev pub wanted : ℕ → List K → List K → ℕ
  wanted d ks rs = distinct eq (asked ks (take d rs))

  -- how many of them are not the same as x
  abbrev pub wanted_beside : K → ℕ → List K → List K → ℕ
  wanted_beside x d ks rs = distinct eq (others eq x (asked ks (take d rs)))

  -- After the request of x, with the requests rs to come, next is held in place of ks. However far one looks ahead: what was held and is wanted
  -- until there still is, or h keys are held and all but x are wanted until there.
  abbrev pub LosesLatest : ℕ → List K → K → List K → List K → Type 0
  LosesLatest h ks x rs next = (d : ℕ)
      → ((z : K) → holds eq z ks ≡ true → holds eq z (take d rs) ≡ true → holds eq z next ≡ true)
      ⊎ ((h ≤ distinct eq next) × ((z : K) → holds eq z next ≡ true → eq x z ≡ false → holds eq z (take d rs) ≡ true))

module _ {K : Type 0} (eq : K → K → Bool) (laws : IsEquivalence eq) where
  -- the keys asked for are those that are requested and held
  pub holds-asked : (z : K) (ks rs : List K) → holds eq z (asked eq ks rs) ≡ (holds eq z rs && holds eq z ks)
  holds-asked z ks [] = refl
  holds-asked z ks (y ∷ rs) =
      let ih = holds-asked z ks rs in
      split (eq z y)
      (λ t. let e = holds_same eq laws z y ks t in
      split (holds eq y ks) (λ u. rw (u, t, e, u) refl) (λ v. rw (v, t, e, v) (ih ∙ rw (e, v) (split (holds eq z rs) (λ a. rw a refl) (λ b. rw b refl)))))
      (λ f. split (holds eq y ks) (λ u. rw (u, f) ih) (λ v. rw (v, f) ih))

  -- the keys wanted, by whether x is among them
  wanted_by_key : (x : K) (d : ℕ) (ks rs : List K)
      → wanted eq d ks rs ≡ cond (holds eq x (take d rs) && holds eq x ks) 1 0 + wanted_beside eq x d ks rs
  wanted_by_key x d ks rs =
      let e = distinct_by_key eq laws x (asked eq ks (take d rs)) in
      let s = rw (holds-asked x ks (take d rs)) at e in
      split (holds eq x (take d rs) && holds eq x ks) (λ t. rw t (omega (arith, rw t at s))) (λ f. rw f (omega (arith, rw f at s)))

  -- the keys wanted from a request of x on
  pub wanted-cons : (x : K) (d : ℕ) (ks rs : List K) → wanted eq (suc d) ks (x ∷ rs) ≡ cond (holds eq x ks) 1 0 + wanted_beside eq x d ks rs
  wanted-cons x d ks rs =
      let here = laws.refl x in
      split (holds eq x ks)
      (λ t. let e = distinct_by_key eq laws x (x ∷ asked eq ks (take d rs)) in
      let s = rw here at e in
      rw t (omega (arith, s)))
      (λ f. let e = wanted_by_key x d ks rs in
      let none : (holds eq x (take d rs) && holds eq x ks) ≡ false = rw f (split (holds eq x (take d rs)) (λ a. rw a refl) (λ b. rw b refl)) in
      rw f (omega (arith, rw none at e)))

  -- where x is held, the keys wanted are x, if it is, and those beside it
  pub wanted_held : (x : K) (d : ℕ) (ks rs : List K) → holds eq x ks ≡ true
      → wanted eq d ks rs ≡ cond (holds eq x (take d rs)) 1 0 + wanted_beside eq x d ks rs
  wanted_held x d ks rs held =
      let e = wanted_by_key x d ks rs in
      let s = rw held at e in
      split (holds eq x (take d rs)) (λ t. rw t (omega (arith, rw t at s))) (λ f. rw f (omega (arith, rw f at s)))

  -- a key wanted beside x is held, is wanted, and is not the same as x
  beside_parts : (x z : K) (ks rs : List K) → holds eq z (others eq x (asked eq ks rs)) ≡ true
      → (eq x z ≡ false) × (holds eq z rs ≡ true) × (holds eq z ks ≡ true)
  beside_parts x z ks rs h =
      let p = rw (holds-others eq laws z x (asked eq ks rs), holds-asked z ks rs) at h in
      let q = and_parts (not (eq x z)) (holds eq z rs && holds eq z ks) p in
      let r = and_parts (holds eq z rs) (holds eq z ks) q.1 in
      (split (eq x z) (λ t. cc (rw t at q.0)) (λ f. f), r.0, r.1)

  beside_from : (x z : K) (ks rs : List K) → eq x z ≡ false → holds eq z rs ≡ true → holds eq z ks ≡ true
      → holds eq z (others eq x (asked eq ks rs)) ≡ true
  beside_from x z ks rs apart want held = rw (holds-others eq laws z x (asked eq ks rs), holds-asked z ks rs, apart, want, held) refl

  -- as many keys are wanted beside x where each of them stays
  pub beside_mono : (x : K) (d : ℕ) (ks ls rs : List K)
      → ((z : K) → eq x z ≡ false → holds eq z (take d rs) ≡ true → holds eq z ks ≡ true → holds eq z ls ≡ true)
      → wanted_beside eq x d ks rs ≤ wanted_beside eq x d ls rs
  beside_mono x d ks ls rs stays =
      distinct_mono eq laws (others eq x (asked eq ks (take d rs))) (others eq x (asked eq ls (take d rs))) (λ z h.
      let p = beside_parts x z ks (take d rs) h in
      beside_from x z ls (take d rs) p.0 p.1 (stays z p.0 p.1 p.2))

  -- beside x fewer keys are wanted than are held with x
  pub beside_few : (x : K) (d : ℕ) (ks rs : List K) → holds eq x ks ≡ true → suc (wanted_beside eq x d ks rs) ≤ length ks
  beside_few x d ks rs held =
      let o = others eq x (asked eq ks (take d rs)) in
      let none : holds eq x o ≡ false = rw (holds-others eq laws x x (asked eq ks (take d rs)), laws.refl x) refl in
      let m = distinct_mono eq laws (x ∷ o) ks (λ z h. split (eq z x)
      (λ t. holds_same eq laws z x ks t ∙ held)
      (λ f. (beside_parts x z ks (take d rs) (rw f at h)).2)) in
      omega (arith, rw none at m, distinct-le-length eq ks)

  -- where all keys held but x are wanted, they are the keys wanted beside x
  pub beside_many : (x : K) (d : ℕ) (ks rs : List K) → holds eq x ks ≡ true
      → ((z : K) → holds eq z ks ≡ true → eq x z ≡ false → holds eq z (take d rs) ≡ true)
      → distinct eq ks ≤ suc (wanted_beside eq x d ks rs)
  beside_many x d ks rs held all =
      let e = distinct_by_key eq laws x ks in
      let m = distinct_mono eq laws (others eq x ks) (others eq x (asked eq ks (take d rs))) (λ z h.
      let p = and_parts (not (eq x z)) (holds eq z ks) (rw (holds-others eq laws z x ks) at h) in
      let apart : eq x z ≡ false = split (eq x z) (λ t. cc (rw t at p.0)) (λ f. f) in
      beside_from x z ks (take d rs) apart (all z p.1 apart) p.1) in
      omega (arith, rw held at e, m)
