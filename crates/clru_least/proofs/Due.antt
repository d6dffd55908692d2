-- How many of the keys held are requested next at a position.
use Rattle.std.proofs.Common.{◌≡◌, ℕ, suc, ◌+◌, ◌<◌, Bool, true, false, cond, eqb}
use Rattle.std.proofs.Common.{List, [], ◌∷◌, length, refl, sym, ap, ◌∙◌, arith}
use Rattle.std.proofs.lemmas.Bool.{ne_eqb}
use Rattle.std.proofs.lemmas.List.Sums.{sum_by-cons}
use Rattle.std.specs.Cmp.{IsEquivalence}
use Rattle.std.specs.List.{count_by}
use Rattle.clru_model.specs.Requests.{holds, distinct}
use Rattle.clru_model.proofs.Distinct.{distinct-le-length}
use Rattle.clru_model.proofs.Cases.{split}
use Rattle.clru_model.proofs.Distinct.{others, holds-others, holds_same, distinct_by_key}
use Rattle.clru_least.specs.Next.{until}
use Rattle.clru_least.proofs.Until.{until_same, same_until}

-- how many elements pass a test, with one more in front
pub count_by-cons : {X : Type 0} (f : X → Bool) (x : X) (xs : List X) → count_by f (x ∷ xs) ≡ cond (f x) 1 0 + count_by f xs
count_by-cons f x xs = sum_by-cons (λ y. cond (f y) 1 0) x xs

module _ {K : Type 0} (eq : K → K → Bool) where
  -- whether z, where the requests rs begin at the position i, is requested next at p
  abbrev pub is_due : ℕ → List K → ℕ → K → Bool
  is_due i rs p z = eqb (i + until eq z rs) p

  -- how many of the keys are
  abbrev pub due : ℕ → List K → List K → ℕ → ℕ
  due i rs ks p = count_by (is_due i rs p) ks

  -- no two of the keys are the same
  abbrev pub AreApart : List K → Type 0
  AreApart ks = distinct eq ks ≡ length ks

  pub AreApart_parts : (k : K) (ks : List K) → AreApart (k ∷ ks) → (holds eq k ks ≡ false) × AreApart ks
  AreApart_parts k ks apart = split (holds eq k ks)
      (λ t. absurd (omega (arith, rw t at apart, distinct-le-length eq ks)))
      (λ f. (f, omega (arith, rw f at apart)))

  -- without a key that is not held, the keys stay
  others_none : (x : K) (ks : List K) → holds eq x ks ≡ false → others eq x ks ≡ ks
  others_none x [] none = refl
  others_none x (k ∷ ks) none = split (eq x k) (λ t. cc (rw t at none)) (λ f. rw f (ap (λ l. k ∷ l) (others_none x ks (rw f at none))))

module _ {K : Type 0} (eq : K → K → Bool) (laws : IsEquivalence eq) where
  -- some key is counted
  pub due_key : (f : K → Bool) (ks : List K) → 0 < count_by f ks → (z : K) × (holds eq z ks ≡ true) × (f z ≡ true)
  due_key f [] some = absurd (omega (arith, some))
  due_key f (k ∷ ks) some = split (f k)
      (λ t. (k, rw (laws.refl k) refl, t))
      (λ u. let e = count_by-cons f k ks in
      let none : cond (f k) 1 0 + count_by f ks ≡ count_by f ks = rw u (omega arith) in
      let less : 0 < count_by f ks = omega (arith, e, none, some) in
      let (z, held, at) = due_key f ks less in
      (z, split (eq z k) (λ t. rw t refl) (λ v. rw v held), at))

  pub AreApart_others : (x : K) (ks : List K) → AreApart eq ks → AreApart eq (others eq x ks)
  AreApart_others x [] apart = refl
  AreApart_others x (k ∷ ks) apart =
      let parts = AreApart_parts eq k ks apart in
      let ih = AreApart_others x ks parts.1 in
      let none : holds eq k (others eq x ks) ≡ false = holds-others eq laws k x ks ∙ split (eq x k) (λ t. rw t refl) (λ f. rw (f, parts.0) refl) in
      split (eq x k) (λ t. rw t ih) (λ f. rw (f, none) (omega (arith, ih)))

  -- a key that is held is one of the keys
  pub length-others : (x : K) (ks : List K) → AreApart eq ks → length ks ≡ cond (holds eq x ks) 1 0 + length (others eq x ks)
  length-others x ks apart =
      let e = distinct_by_key eq laws x ks in
      let o = AreApart_others x ks apart in
      split (holds eq x ks) (λ t. rw t (omega (arith, rw t at e))) (λ f. rw f (omega (arith, rw f at e)))

  -- with one more of them in front no two are the same
  pub AreApart_first : (x : K) (ks : List K) → AreApart eq ks → AreApart eq (x ∷ others eq x ks)
  AreApart_first x ks apart =
      let none : holds eq x (others eq x ks) ≡ false = holds-others eq laws x x ks ∙ rw (laws.refl x) refl in
      let ih = AreApart_others x ks apart in rw none (omega (arith, ih))

  -- a key that is held counts once
  pub count_by_key : (f : K → Bool) (z : K) (ks : List K) → ((y : K) → eq z y ≡ true → f z ≡ f y) → AreApart eq ks → holds eq z ks ≡ true
      → count_by f ks ≡ cond (f z) 1 0 + count_by f (others eq z ks)
  count_by_key f z [] same apart held = cc
  count_by_key f z (k ∷ ks) same apart held =
      let parts = AreApart_parts eq k ks apart in
      let e = count_by-cons f k ks in
      split (eq z k)
      (λ t. let none : holds eq z ks ≡ false = holds_same eq laws z k ks t ∙ parts.0 in
      rw (t, others_none eq z ks none, same k t) e)
      (λ u. let ih = count_by_key f z ks same parts.1 (rw u at held) in
      rw u (omega (arith, e, ih, count_by-cons f k (others eq z ks))))

  is_due_same : (i : ℕ) (rs : List K) (p : ℕ) (z y : K) → eq z y ≡ true → is_due eq i rs p z ≡ is_due eq i rs p y
  is_due_same i rs p z y t = ap (λ (n : ℕ). eqb (i + n) p) (until_same eq laws z y rs t)

  -- what is due at a position, by whether z is
  pub due_by_key : (i : ℕ) (rs : List K) (p : ℕ) (z : K) (ks : List K) → AreApart eq ks → holds eq z ks ≡ true
      → due eq i rs ks p ≡ cond (is_due eq i rs p z) 1 0 + due eq i rs (others eq z ks) p
  due_by_key i rs p z ks apart held = count_by_key (is_due eq i rs p) z ks (is_due_same i rs p z) apart held

  -- no other key is due where z is
  pub due_alone : (i : ℕ) (rs : List K) (z : K) (ks : List K) → until eq z rs < length rs
      → due eq i rs (others eq z ks) (i + until eq z rs) ≡ 0
  due_alone i rs z [] within = refl
  due_alone i rs z (k ∷ ks) within =
      let p : ℕ = i + until eq z rs in
      let ih = due_alone i rs z ks within in
      split (eq z k)
      (λ t. rw t ih)
      (λ f. let not_now : is_due eq i rs p k ≡ false = ne_eqb (i + until eq k rs) p (λ same.
      cc (sym f ∙ same_until eq laws z k rs (omega (arith, same)) within)) in
      rw f (count_by-cons (is_due eq i rs p) k (others eq z ks) ∙ rw not_now (omega (arith, ih))))

  -- after a request of x what is due later is due as before, but for x
  pub due_after : (i : ℕ) (x : K) (rs : List K) (ks : List K) (p : ℕ) → i < p
      → due eq i (x ∷ rs) ks p ≡ due eq (i + 1) rs (others eq x ks) p
  due_after i x rs [] p later = refl
  due_after i x rs (k ∷ ks) p later =
      let ih = due_after i x rs ks p later in
      let e = count_by-cons (is_due eq i (x ∷ rs) p) k ks in
      split (eq x k)
      (λ t. let back : eq k x ≡ true = laws.symm k x ∙ t in
      let now : is_due eq i (x ∷ rs) p k ≡ false = rw back (ne_eqb (i + 0) p (λ same. absurd (omega arith))) in
      rw t (e ∙ rw now (omega (arith, ih))))
      (λ f. let back : eq k x ≡ false = laws.symm k x ∙ f in
      let n : i + suc (until eq k rs) ≡ (i + 1) + until eq k rs = omega arith in
      let same : is_due eq i (x ∷ rs) p k ≡ is_due eq (i + 1) rs p k = rw back (ap (λ (m : ℕ). eqb m p) n) in
      rw f (cc (e, same, ih, count_by-cons (is_due eq (i + 1) rs p) k (others eq x ks))))
