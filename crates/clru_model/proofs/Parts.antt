-- The first and the latest requests for keys, of one list and of two in a row.
use Rattle.std.proofs.Common.{◌≡◌, Bool, true, false, cond, not, ◌||◌, List, [], ◌∷◌, ◌++◌, length, reverse, refl, sym, ap, ◌∙◌, append-nil, arith}
use Rattle.std.proofs.lemmas.Bool.{or_left, or_right}
use Rattle.std.proofs.lemmas.List.{reverse-append, length-reverse, reverse-reverse}
use Rattle.std.proofs.lemmas.List.Elements.{filter-append}
use Rattle.std.specs.Cmp.{IsEquivalence}
use Rattle.std.specs.List.{AllByRecursion, filter}
use Rattle.clru_model.specs.Parts.{firsts, lasts}
use Rattle.clru_model.specs.Requests.{holds, distinct, since}
use Rattle.clru_model.proofs.Cases.{split}
use Rattle.clru_model.proofs.Distinct.{others, holds-append, holds_same, same_right, holds-others, since-cons, distinct_mono}
use Rattle.clru_model.proofs.Positions.{holds-reverse}

pub all-filter : {X : Type 0} (P : X → Type 0) (q : X → Bool) (xs : List X) → AllByRecursion P xs → AllByRecursion P (filter q xs)
all-filter P q [] all = tt
all-filter P q (x ∷ xs) all = let ih = all-filter P q xs all.1 in split (q x) (λ t. rw t (all.0, ih)) (λ f. rw f ih)

pub all-append : {X : Type 0} (P : X → Type 0) (xs ys : List X) → AllByRecursion P xs → AllByRecursion P ys → AllByRecursion P (xs ++ ys)
all-append P [] ys all more = more
all-append P (x ∷ xs) ys all more = (all.0, all-append P xs ys all.1 more)

-- what holds of each request holds of the first and of the latest ones
pub all_firsts : {K : Type 0} (P : K → Type 0) (eq : K → K → Bool) (rs : List K) → AllByRecursion P rs → AllByRecursion P (firsts eq rs)
all_firsts P eq [] all = tt
all_firsts P eq (x ∷ rs) all = (all.0, all-filter P (λ y. not (eq x y)) (firsts eq rs) (all_firsts P eq rs all.1))

pub all_lasts : {K : Type 0} (P : K → Type 0) (eq : K → K → Bool) (rs : List K) → AllByRecursion P rs → AllByRecursion P (lasts eq rs)
all_lasts P eq [] all = tt
all_lasts P eq (x ∷ rs) all =
    let ih = all_lasts P eq rs all.1 in split (holds eq x rs) (λ t. rw t ih) (λ f. rw f (all.0, ih))

module _ {K : Type 0} (eq : K → K → Bool) where
  -- of the requests, in order, the first one for each key that none of the past has
  abbrev pub firsts_beyond : List K → List K → List K
  firsts_beyond past [] = []
  firsts_beyond past (x ∷ rs) = cond (holds eq x past) (firsts_beyond (x ∷ past) rs) (x ∷ firsts_beyond (x ∷ past) rs)

  -- the latest requests are as many as the distinct keys
  pub length-lasts : (rs : List K) → length (lasts eq rs) ≡ distinct eq rs
  length-lasts [] = refl
  length-lasts (x ∷ rs) = let ih = length-lasts rs in split (holds eq x rs) (λ t. rw t ih) (λ f. rw f (omega (arith, ih)))

module _ {K : Type 0} (eq : K → K → Bool) (laws : IsEquivalence eq) where
  -- what comes since x leaves other keys out as the list does
  since-others : (x y : K) (ks : List K) → eq x y ≡ false → since eq x (others eq y ks) ≡ others eq y (since eq x ks)
  since-others x y [] apart = refl
  since-others x y (k ∷ ks) apart =
      let ih = since-others x y ks apart in
      rw (since-cons eq x k ks) (split (eq y k)
      (λ t. let w : eq x k ≡ false = sym (same_right eq laws y k x t) ∙ apart in rw (t, w, t) ih)
      (λ f. rw (f, since-cons eq x k (others eq y ks)) (split (eq x k) (λ u. rw u refl) (λ v. rw (v, f) (ap (λ l. k ∷ l) ih)))))

  -- the first requests hold the keys that the list does
  pub holds-firsts : (z : K) (rs : List K) → holds eq z (firsts eq rs) ≡ holds eq z rs
  holds-firsts z [] = refl
  holds-firsts z (x ∷ rs) =
      rw (holds-others eq laws z x (firsts eq rs), holds-firsts z rs) (split (eq z x)
      (λ t. rw t refl)
      (λ f. let g : eq x z ≡ false = laws.symm x z ∙ f in rw (f, g) refl))

  -- and so do the latest ones
  pub holds-lasts : (z : K) (rs : List K) → holds eq z (lasts eq rs) ≡ holds eq z rs
  holds-lasts z [] = refl
  holds-lasts z (x ∷ rs) =
      let ih = holds-lasts z rs in
      split (holds eq x rs)
      (λ t. rw t (ih ∙ split (eq z x) (λ u. rw u (holds_same eq laws z x rs u ∙ t)) (λ v. rw v refl)))
      (λ f. rw f (ap (λ b. eq z x || b) ih))

  -- also since x
  pub holds_since-firsts : (x z : K) (past : List K) → holds eq z (since eq x (firsts eq past)) ≡ holds eq z (since eq x past)
  holds_since-firsts x z [] = refl
  holds_since-firsts x z (y ∷ past) =
      let ih = holds_since-firsts x z past in
      rw (since-cons eq x y (others eq y (firsts eq past)), since-cons eq x y past) (split (eq x y)
      (λ t. rw t refl)
      (λ f. rw (f, since-others x y (firsts eq past) f, holds-others eq laws z y (since eq x (firsts eq past)), ih) (split (eq z y)
      (λ t. rw t refl)
      (λ g. let h : eq y z ≡ false = laws.symm y z ∙ g in rw (g, h) refl))))

  -- the first requests with one more at the end
  firsts_push : (rs : List K) (x : K) → firsts eq (rs ++ x ∷ []) ≡ cond (holds eq x rs) (firsts eq rs) (firsts eq rs ++ x ∷ [])
  firsts_push [] x = refl
  firsts_push (y ∷ rs) x =
      let parts = filter-append (λ z. not (eq y z)) (firsts eq rs) (x ∷ []) in
      rw (firsts_push rs x) (split (eq x y)
      (λ t. let back : eq y x ≡ true = laws.symm y x ∙ t in
      rw t (split (holds eq x rs) (λ u. rw u refl) (λ v. rw v (rw parts (rw back (ap (λ l. y ∷ l) (append-nil (others eq y (firsts eq rs)))))))))
      (λ f. let back : eq y x ≡ false = laws.symm y x ∙ f in
      rw f (split (holds eq x rs) (λ u. rw u refl) (λ v. rw v (rw parts (rw back refl))))))

  -- backwards, the latest requests are the first ones
  pub reverse-lasts : (rs : List K) → reverse (lasts eq rs) ≡ firsts eq (reverse rs)
  reverse-lasts [] = refl
  reverse-lasts (x ∷ rs) =
      let ih = reverse-lasts rs in
      rw (reverse-append (x ∷ []) rs, firsts_push (reverse rs) x, holds-reverse eq x rs) (split (holds eq x rs)
      (λ t. rw t ih)
      (λ f. rw f (reverse-append (x ∷ []) (lasts eq rs) ∙ ap (λ l. l ++ x ∷ []) ih)))

  pub length-firsts : (rs : List K) → length (firsts eq rs) ≡ distinct eq (reverse rs)
  length-firsts rs =
      ap (λ l. length (firsts eq l)) (sym (reverse-reverse rs)) ∙ ap length (sym (reverse-lasts (reverse rs)))
      ∙ length-reverse (lasts eq (reverse rs)) ∙ length-lasts eq (reverse rs)

  -- lists that hold the same keys have as many distinct ones
  pub distinct_same : (xs ys : List K) → ((z : K) → holds eq z xs ≡ holds eq z ys) → distinct eq xs ≡ distinct eq ys
  distinct_same xs ys same =
      let up = distinct_mono eq laws xs ys (λ z h. sym (same z) ∙ h) in
      let down = distinct_mono eq laws ys xs (λ z h. same z ∙ h) in
      omega (arith, up, down)

  others_beyond : (x : K) (past ks : List K)
      → filter (λ y. not (holds eq y (x ∷ past))) ks ≡ filter (λ y. not (holds eq y past)) (others eq x ks)
  others_beyond x past [] = refl
  others_beyond x past (k ∷ ks) =
      let ih = others_beyond x past ks in
      split (eq x k)
      (λ t. let back : eq k x ≡ true = laws.symm k x ∙ t in rw (t, back) ih)
      (λ f. let back : eq k x ≡ false = laws.symm k x ∙ f in
      rw (f, back) (split (holds eq k past) (λ u. rw u ih) (λ v. rw v (ap (λ l. k ∷ l) ih))))

  firsts_beyond-is : (past rs : List K) → firsts_beyond eq past rs ≡ filter (λ y. not (holds eq y past)) (firsts eq rs)
  firsts_beyond-is past [] = refl
  firsts_beyond-is past (x ∷ rs) =
      let ih = firsts_beyond-is (x ∷ past) rs ∙ others_beyond x past (firsts eq rs) in
      split (holds eq x past) (λ t. rw t ih) (λ f. rw f (ap (λ l. x ∷ l) ih))

  -- all requests of the past are since a key that none of them asks for
  pub since_beyond : (x : K) (past older : List K) → holds eq x past ≡ false → since eq x (past ++ older) ≡ past ++ since eq x older
  since_beyond x [] older new = refl
  since_beyond x (y ∷ past) older new =
      rw (since-cons eq x y (past ++ older)) (split (eq x y)
      (λ t. cc (rw t at new))
      (λ f. rw f (ap (λ l. y ∷ l) (since_beyond x past older (rw f at new)))))

  beyond_none : (ks : List K) → filter (λ y. not (holds eq y [])) ks ≡ ks
  beyond_none [] = refl
  beyond_none (k ∷ ks) = ap (λ l. k ∷ l) (beyond_none ks)

  pub firsts_beyond-none : (rs : List K) → firsts_beyond eq [] rs ≡ firsts eq rs
  firsts_beyond-none rs = firsts_beyond-is [] rs ∙ beyond_none (firsts eq rs)

  -- the latest requests of two lists in a row
  pub lasts-append : (xs ys : List K) → lasts eq (xs ++ ys) ≡ filter (λ x. not (holds eq x ys)) (lasts eq xs) ++ lasts eq ys
  lasts-append [] ys = refl
  lasts-append (x ∷ xs) ys =
      let ih = lasts-append xs ys in
      rw (holds-append eq x xs ys) (split (holds eq x xs)
      (λ t. rw t ih)
      (λ f. rw f (split (holds eq x ys) (λ u. rw u ih) (λ v. rw v (ap (λ l. x ∷ l) ih)))))

  pub lasts-lasts : (rs : List K) → lasts eq (lasts eq rs) ≡ lasts eq rs
  lasts-lasts [] = refl
  lasts-lasts (x ∷ rs) =
      let ih = lasts-lasts rs in
      split (holds eq x rs) (λ t. rw t ih) (λ f. rw f (rw (holds-lasts x rs, f) (ap (λ l. x ∷ l) ih)))

  none_left : (xs ys : List K) → ((z : K) → holds eq z xs ≡ true → holds eq z ys ≡ true) → filter (λ x. not (holds eq x ys)) xs ≡ []
  none_left [] ys within = refl
  none_left (x ∷ xs) ys within =
      rw (within x (or_left (eq x x) (holds eq x xs) (laws.refl x))) (none_left xs ys (λ z h. within z (or_right (eq z x) (holds eq z xs) h)))

  left_by : (ys zs ks : List K) → ((z : K) → holds eq z ys ≡ holds eq z ks) → ((z : K) → holds eq z zs ≡ holds eq z ks) → (xs : List K)
      → filter (λ x. not (holds eq x ys)) (filter (λ x. not (holds eq x zs)) xs) ≡ filter (λ x. not (holds eq x ks)) xs
  left_by ys zs ks same alike [] = refl
  left_by ys zs ks same alike (x ∷ xs) =
      let ih = left_by ys zs ks same alike xs in
      rw (alike x) (split (holds eq x ks) (λ t. rw t ih) (λ f. rw f (rw (same x, f) (ap (λ l. x ∷ l) ih))))

  -- the latest requests of each list and the first ones of the second tell those of both
  pub lasts_joined : (one two : List K) → lasts eq ((lasts eq one ++ firsts eq two) ++ lasts eq two) ≡ lasts eq (one ++ two)
  lasts_joined one two =
      let a = lasts eq one in let f = firsts eq two in let b = lasts eq two in
      let beyond : List K → List K = filter (λ x. not (holds eq x b)) in
      let held : (z : K) → holds eq z (lasts eq f) ≡ true → holds eq z b ≡ true =
      λ z h. holds-lasts z two ∙ sym (holds-firsts z two) ∙ sym (holds-lasts z f) ∙ h in
      lasts-append (a ++ f) b
      ∙ ap (λ l. beyond l ++ lasts eq b) (lasts-append a f)
      ∙ ap (λ l. l ++ lasts eq b) (filter-append (λ x. not (holds eq x b)) (filter (λ x. not (holds eq x f)) (lasts eq a)) (lasts eq f))
      ∙ ap (λ l. (beyond (filter (λ x. not (holds eq x f)) (lasts eq a)) ++ l) ++ lasts eq b) (none_left (lasts eq f) b held)
      ∙ ap (λ l. l ++ lasts eq b) (append-nil (beyond (filter (λ x. not (holds eq x f)) (lasts eq a))))
      ∙ ap (λ l. l ++ lasts eq b) (left_by b f two (λ z. holds-lasts z two) (λ z. holds-firsts z two) (lasts eq a))
      ∙ ap (λ l. filter (λ x. not (holds eq x two)) l ++ lasts eq b) (lasts-lasts one)
      ∙ ap (λ l. filter (λ x. not (holds eq x two)) a ++ l) (lasts-lasts two)
      ∙ sym (lasts-append one two)

  -- the keys of both
  pub holds_joined : (z : K) (one two : List K) → holds eq z (lasts eq one ++ firsts eq two) ≡ holds eq z (one ++ two)
  holds_joined z one two =
      rw (holds-append eq z (lasts eq one) (firsts eq two), holds-append eq z one two, holds-lasts z one, holds-firsts z two) refl

  pub distinct_joined : (one two : List K) → distinct eq (reverse (lasts eq one ++ firsts eq two)) ≡ distinct eq (reverse (one ++ two))
  distinct_joined one two =
      distinct_same (reverse (lasts eq one ++ firsts eq two)) (reverse (one ++ two))
      (λ z. holds-reverse eq z (lasts eq one ++ firsts eq two) ∙ holds_joined z one two ∙ sym (holds-reverse eq z (one ++ two)))
