-- Keys held in lists of requests, and sums over the distinct ones: their number, their size.
use Rattle.std.proofs.Common.{◌≡◌, ℕ, suc, ◌+◌, ◌<◌, ◌≤◌, Bool, true, false, cond, not, ◌&&◌, ◌||◌, List, [], ◌∷◌, ◌++◌, length, refl, sym, ap, ◌∙◌, arith}
use Rattle.std.proofs.lemmas.List.Sums.{take_while-cons}
use Rattle.std.proofs.lemmas.Bool.Decides.{nat_tests}
use Rattle.std.proofs.lemmas.Bool.{or_left, or_right, or_parts, and_parts}
use Rattle.std.specs.Cmp.{IsEquivalence}
use Rattle.std.specs.List.{filter, list_all}
use Rattle.clru_model.proofs.Cases.{split}
use Rattle.clru_model.specs.Requests.{holds, sum_distinct, distinct, since, hit}
use Rattle.clru_model.specs.Sizes.{SameWeights, total}

module _ {K : Type 0} (eq : K → K → Bool) where
  -- the requests of other keys than x
  abbrev pub others : K → List K → List K
  others x ks = filter (λ y. not (eq x y)) ks

  -- a key is held in two lists in a row where one of them holds it
  pub holds-append : (x : K) (ks ls : List K) → holds eq x (ks ++ ls) ≡ (holds eq x ks || holds eq x ls)
  holds-append x [] ls = refl
  holds-append x (k ∷ ks) ls = split (eq x k) (λ t. rw t refl) (λ f. rw f (holds-append x ks ls))

  -- since x, with one more request in front
  pub since-cons : (x y : K) (past : List K) → since eq x (y ∷ past) ≡ cond (eq x y) [] (y ∷ since eq x past)
  since-cons x y past = rw (take_while-cons (λ z. not (eq x z)) y past) (split (eq x y) (λ t. rw t refl) (λ f. rw f refl))

  -- a list has at most as many distinct keys as keys
  pub distinct-le-length : (ks : List K) → distinct eq ks ≤ length ks
  distinct-le-length [] = omega arith
  distinct-le-length (k ∷ ks) = let ih = distinct-le-length ks in split (holds eq k ks) (λ t. rw t (omega arith)) (λ f. rw f (omega arith))

module _ {K : Type 0} (eq : K → K → Bool) (laws : IsEquivalence eq) where
  -- keys that are the same are held together
  pub holds_same : (x y : K) (ks : List K) → eq x y ≡ true → holds eq x ks ≡ holds eq y ks
  holds_same x y [] e = refl
  holds_same x y (k ∷ ks) e = cc (laws.congr x y k e, holds_same x y ks e)

  -- keys that are the same are the same as the same keys
  pub same_right : (x y z : K) → eq x y ≡ true → eq z x ≡ eq z y
  same_right x y z e = laws.symm z x ∙ laws.congr x y z e ∙ laws.symm y z

  -- the keys held among the others of x are those that are not the same as x
  pub holds-others : (z x : K) (ks : List K) → holds eq z (others eq x ks) ≡ (not (eq x z) && holds eq z ks)
  holds-others z x [] = split (eq x z) (λ t. rw t refl) (λ f. rw f refl)
  holds-others z x (y ∷ ks) =
      split (eq x y)
      (λ t. split (eq x z)
      (λ u. let ih = holds-others z x ks in rw (t, u) (rw u at ih))
      (λ v. let ih = holds-others z x ks in
      let w : eq z y ≡ false = sym (same_right x y z t) ∙ laws.symm z x ∙ v in
      rw (t, v, w) (rw v at ih)))
      (λ f. split (eq x z)
      (λ u. let ih = holds-others z x ks in
      let w : eq z y ≡ false = sym (laws.congr x z y u) ∙ f in
      rw (f, u, w) (rw u at ih))
      (λ v. let ih = holds-others z x ks in rw (f, v) (ap (λ b. eq z y || b) (rw v at ih))))

  -- no key is requested since its own latest request
  pub not_since : (x : K) (past : List K) → holds eq x (since eq x past) ≡ false
  not_since x [] = refl
  not_since x (y ∷ past) = rw (since-cons eq x y past) (split (eq x y) (λ t. rw t refl) (λ f. rw (f, f) (not_since x past)))

  -- each key for which a list passes a test of being held is held
  pub held_of_all : (ks ls : List K) → list_all (λ q. holds eq q ls) ks ≡ true → (z : K) → holds eq z ks ≡ true → holds eq z ls ≡ true
  held_of_all (k ∷ ks) ls all z h =
      let parts = and_parts (holds eq k ls) (list_all (λ q. holds eq q ls) ks) all in
      split (eq z k) (λ t. holds_same z k ls t ∙ parts.0) (λ f. held_of_all ks ls parts.1 z (rw f at h))
  held_of_all [] ls all z h = cc

  -- the requests since one of the latest requests
  pub since-append : (x : K) (phase older : List K) → holds eq x phase ≡ true → since eq x (phase ++ older) ≡ since eq x phase
  since-append x [] older h = cc
  since-append x (y ∷ phase) older h =
      rw (since-cons eq x y (phase ++ older), since-cons eq x y phase) (split (eq x y)
      (λ t. rw t refl)
      (λ f. rw f (ap (λ l. y ∷ l) (since-append x phase older (rw f at h)))))

  -- what is requested since x is requested before
  pub since_within : (x z : K) (past : List K) → holds eq z (since eq x past) ≡ true → holds eq z past ≡ true
  since_within x z [] h = h
  since_within x z (y ∷ past) h =
      let g = rw (since-cons eq x y past) at h in
      split (eq x y)
      (λ t. cc (rw t at g))
      (λ f. split (eq z y) (λ u. rw u refl) (λ v. rw v (since_within x z past (rw (f, v) at g))))

  -- where x is requested since y, so is all that is requested since x
  pub since_since : (x y z : K) (past : List K) → holds eq x (since eq y past) ≡ true → holds eq z (since eq x past) ≡ true
      → holds eq z (since eq y past) ≡ true
  since_since x y z [] h g = h
  since_since x y z (w ∷ past) h g =
      let hh = rw (since-cons eq y w past) at h in
      let gg = rw (since-cons eq x w past) at g in
      split (eq y w)
      (λ t. cc (rw t at hh))
      (λ f. split (eq x w)
      (λ u. cc (rw u at gg))
      (λ v. rw (since-cons eq y w past, f) (split (eq z w)
      (λ s. rw s refl) (λ n. rw n (since_since x y z past (rw (f, v) at hh) (rw (v, n) at gg))))))

  module _ (f : K → ℕ) (same : SameWeights eq f) where
    -- a key that is held counts once
    pub sum_by_key : (x : K) (ks : List K) → sum_distinct eq f ks ≡ cond (holds eq x ks) (f x) 0 + sum_distinct eq f (others eq x ks)
    sum_by_key x [] = refl
    sum_by_key x (y ∷ ks) =
        let ih = sum_by_key x ks in
        split (eq x y)
        (λ t. let e = holds_same x y ks t in
        let w = same x y t in
        split (holds eq x ks)
        (λ h. rw (t, ← e, h) (rw h at ih))
        (λ h. rw (t, ← e, h) (let rest = rw h at ih in omega (arith, w, rest))))
        (λ n. let e : holds eq y (others eq x ks) ≡ holds eq y ks = rw (holds-others y x ks, n) refl in
        rw (n, e) (split (holds eq y ks)
        (λ u. rw u ih)
        (λ v. rw v (omega (arith, ih)))))

    -- a list whose keys are all held in another sums up to no more
    pub sum_mono : (xs ys : List K) → ((z : K) → holds eq z xs ≡ true → holds eq z ys ≡ true) → sum_distinct eq f xs ≤ sum_distinct eq f ys
    sum_mono [] ys within = omega arith
    sum_mono (x ∷ xs) ys within =
        split (holds eq x xs)
        (λ t. rw t (sum_mono xs ys (λ z h. within z (or_right (eq z x) (holds eq z xs) h))))
        (λ n.
        let here : holds eq x ys ≡ true = within x (or_left (eq x x) (holds eq x xs) (laws.refl x)) in
        let rest = sum_mono xs (others eq x ys) (λ z h.
        let apart : eq x z ≡ false = split (eq x z) (λ u. cc (holds_same x z xs u)) (λ v. v) in
        let there = within z (or_right (eq z x) (holds eq z xs) h) in
        rw (holds-others z x ys, apart) there) in
        let all : sum_distinct eq f ys ≡ f x + sum_distinct eq f (others eq x ys) = rw here at (sum_by_key x ys) in
        rw n (omega (arith, rest, all)))

    -- a list that holds x and all that is requested since x sums up to at least x and those
    pub sum_since_less : (x : K) (past ks : List K) → holds eq x ks ≡ true
        → ((z : K) → holds eq z (since eq x past) ≡ true → holds eq z ks ≡ true) → f x + sum_distinct eq f (since eq x past) ≤ sum_distinct eq f ks
    sum_since_less x past ks held within =
        let m = sum_mono (x ∷ since eq x past) ks (λ z g. split (eq z x) (λ t. holds_same z x ks t ∙ held) (λ n. within z (rw n at g))) in
        rw (not_since x past) at m

  -- a key that is held counts as one distinct key
  pub distinct_by_key : (x : K) (ks : List K) → distinct eq ks
      ≡ cond (holds eq x ks) (suc (distinct eq (others eq x ks))) (distinct eq (others eq x ks))
  distinct_by_key x ks =
      let one = sum_by_key (λ _. 1) (λ _ _ _. refl) x ks in
      split (holds eq x ks) (λ t. rw t (let e = rw t at one in omega (arith, e))) (λ n. rw n (let e = rw n at one in omega (arith, e)))

  -- a list whose keys are all held in another has at most as many distinct ones
  pub distinct_mono : (xs ys : List K) → ((z : K) → holds eq z xs ≡ true → holds eq z ys ≡ true) → distinct eq xs ≤ distinct eq ys
  distinct_mono = sum_mono (λ _. 1) (λ _ _ _. refl)

  -- a list that holds x and all that is requested since x has more distinct keys than those
  pub distinct_since_less : (x : K) (past ks : List K) → holds eq x ks ≡ true
      → ((z : K) → holds eq z (since eq x past) ≡ true → holds eq z ks ≡ true) → distinct eq (since eq x past) < distinct eq ks
  distinct_since_less x past ks held within = omega (arith, sum_since_less (λ _. 1) (λ _ _ _. refl) x past ks held within)

  -- where x is requested since y, fewer distinct keys are requested since x
  pub distinct_since_since : (x y : K) (past : List K) → holds eq x (since eq y past) ≡ true
      → distinct eq (since eq x past) < distinct eq (since eq y past)
  distinct_since_since x y past h = distinct_since_less x past (since eq y past) h (λ z g. since_since x y z past h g)

  -- of two keys that were requested, one was requested since the other
  pub since_either : (x y : K) (past : List K) → eq x y ≡ false → holds eq x past ≡ true → holds eq y past ≡ true
      → holds eq x (since eq y past) ≡ false → holds eq y (since eq x past) ≡ true
  since_either x y [] apart hx hy g = hx
  since_either x y (w ∷ past) apart hx hy g =
      let gg = rw (since-cons eq y w past) at g in
      rw (since-cons eq x w past) (split (eq y w)
      (λ t. let v : eq x w ≡ false = sym (same_right y w x t) ∙ apart in rw (v, t) refl)
      (λ f. let parts = or_parts (eq x w) (holds eq x (since eq y past)) (rw f at gg) in
      let v : eq x w ≡ false = parts.0 in
      rw (v, f) (since_either x y past apart (rw v at hx) (rw f at hy) parts.1)))

  -- one request of x shifts the hits of every other key by one capacity, but for those that hit before x does
  pub hit-cons : (j : ℕ) (x y : K) (past : List K) → eq x y ≡ false
      → hit eq (suc j) y (x ∷ past) ≡ cond (hit eq j x past) (hit eq (suc j) y past) (hit eq j y past)
  hit-cons j x y past apart =
      let back : eq y x ≡ false = laws.symm y x ∙ apart in
      rw (since-cons eq y x past, back) (split (holds eq y past)
      (λ hy. rw hy (split (holds eq x (since eq y past))
      (λ t. let lt = distinct_since_since x y past t in
      rw (t, since_within y x past t) (grind (arith, nat_tests)))
      (λ f. rw f (split (holds eq x past)
      (λ hx. let lt = distinct_since_since y x past (since_either x y past apart hx hy f) in rw hx (grind (arith, nat_tests)))
      (λ no_x. rw no_x (grind (arith, nat_tests)))))))
      (λ no_y. rw no_y (split (hit eq j x past) (λ t. rw t refl) (λ f. rw f refl))))

  module _ (weight : K → ℕ) (same : SameWeights eq weight) where
    pub same_size : SameWeights eq (λ x. 1 + weight x)
    same_size x y e = ap (λ n. 1 + n) (same x y e)

    -- a list whose keys are all held in another is of no greater size
    pub total_mono : (xs ys : List K) → ((z : K) → holds eq z xs ≡ true → holds eq z ys ≡ true) → total eq weight xs ≤ total eq weight ys
    total_mono = sum_mono (λ x. 1 + weight x) same_size

    -- a list that holds x and all that is requested since x has at least the size of those and of x
    pub total_since_less : (x : K) (past ks : List K) → holds eq x ks ≡ true
        → ((z : K) → holds eq z (since eq x past) ≡ true → holds eq z ks ≡ true)
        → 1 + weight x + total eq weight (since eq x past) ≤ total eq weight ks
    total_since_less = sum_since_less (λ x. 1 + weight x) same_size

    -- where x is requested since y, its span has room before y
    pub total_since_since : (x y : K) (past : List K) → holds eq x (since eq y past) ≡ true
        → 1 + weight x + total eq weight (since eq x past) ≤ total eq weight (since eq y past)
    total_since_since x y past h = total_since_less x past (since eq y past) h (λ z g. since_since x y z past h g)

    -- the span of a key that was requested is at most the size of all keys
    pub span_within : (x : K) (past : List K) → holds eq x past ≡ true
        → 1 + weight x + total eq weight (since eq x past) ≤ total eq weight past
    span_within x past held = total_since_less x past past held (λ z g. since_within x z past g)
