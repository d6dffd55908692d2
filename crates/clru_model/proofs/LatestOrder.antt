-- Keys with the positions of their latest requests, in the order of these.
use Rattle.std.proofs.Common.{◌≡◌, ℕ, suc, ◌+◌, ◌<◌, ◌≤◌, Bool, true, false, cond, not, ◌&&◌, Option, None, Some, List, [], ◌∷◌, ◌++◌, length, reverse, refl, sym, ap, ◌∙◌, arith, subst, eq-eqb}
use Rattle.std.specs.Prelude.{◌==◌, get_or, is_some, IfSome, ⊤}
use Rattle.std.proofs.lemmas.Bool.{and_parts}
use Rattle.std.proofs.lemmas.Bool.Decides.{nat_tests}
use Rattle.std.proofs.lemmas.List.{reverse-append, reverse-reverse}
use Rattle.std.proofs.lemmas.List.Sorted.{IsPermutation-reverse, sum_by-IsPermutation}
use Rattle.std.proofs.lemmas.List.Sums.{sum_by-cons}
use Rattle.std.specs.Cmp.{IsEquivalence}
use Rattle.std.specs.List.{AllByRecursion, filter, count_by}
use Rattle.std.specs.List.Sorted.{IsNonDecreasingBy, IsPermutation}
use Rattle.std.specs.Map.{keys_of, lookup}
use Rattle.clru_model.proofs.Cases.{split}
use Rattle.clru_model.proofs.Distinct.{holds_same, since-cons}
use Rattle.clru_model.proofs.Parts.{all-filter, holds-lasts, reverse-lasts}
use Rattle.clru_model.proofs.Views.{map-reverse}
use Rattle.clru_model.specs.Parts.{firsts, lasts}
use Rattle.clru_model.specs.Requests.{holds, since}

count_by-cons : {X : Type 0} (p : X → Bool) (x : X) (xs : List X) → count_by p (x ∷ xs) ≡ cond (p x) 1 0 + count_by p xs
count_by-cons p x xs = sum_by-cons (λ y. cond (p y) 1 0) x xs

count_yes : {X : Type 0} (p : X → Bool) (x : X) (xs : List X) → p x ≡ true → count_by p (x ∷ xs) ≡ suc (count_by p xs)
count_yes p x xs h = count_by-cons p x xs ∙ ap (λ b. cond b 1 0 + count_by p xs) h ∙ omega arith

count_no : {X : Type 0} (p : X → Bool) (x : X) (xs : List X) → p x ≡ false → count_by p (x ∷ xs) ≡ count_by p xs
count_no p x xs h = count_by-cons p x xs ∙ ap (λ b. cond b 1 0 + count_by p xs) h ∙ omega arith

all_push : {X : Type 0} (P : X → Type 0) (xs : List X) (y : X) → AllByRecursion P xs → P y → AllByRecursion P (xs ++ y ∷ [])
all_push P [] y all here = (here, tt)
all_push P (x ∷ xs) y all here = (all.0, all_push P xs y all.1 here)

module _ {X : Type 0} (f : X → ℕ) where
  -- f does not fall along the list
  abbrev pub Rises : List X → Type 0
  Rises [] = ⊤
  Rises (x ∷ xs) = AllByRecursion (λ y. f x ≤ f y) xs × Rises xs

  -- f rises at each step
  abbrev pub RisesStrictly : List X → Type 0
  RisesStrictly [] = ⊤
  RisesStrictly (x ∷ xs) = AllByRecursion (λ y. f x < f y) xs × RisesStrictly xs

  all_above : (m : ℕ) (xs : List X) → ((j : ℕ) (d : X) → j < length xs → m ≤ f (get_or xs j d)) → AllByRecursion (λ y. m ≤ f y) xs
  all_above m [] h = tt
  all_above m (x ∷ xs) h = (h 0 x (omega arith), all_above m xs (λ j d lt. h (suc j) d (omega arith)))

  pub rises : (xs : List X) → IsNonDecreasingBy f xs → Rises xs
  rises [] h = tt
  rises (x ∷ xs) h = (all_above (f x) xs (λ j d lt. h 0 (suc j) d (omega arith) (omega arith)), rises xs (λ i j d le lt. h (suc i) (suc j) d (omega arith) (omega arith)))

  strictly_push : (xs : List X) (y : X) → RisesStrictly xs → AllByRecursion (λ x. f x < f y) xs → RisesStrictly (xs ++ y ∷ [])
  strictly_push [] y rise below = (tt, tt)
  strictly_push (x ∷ xs) y rise below = (all_push (λ z. f x < f z) xs y rise.0 below.0, strictly_push xs y rise.1 below.1)

  module _ (same : X → X → Bool) (reflects : (x y : X) → same x y ≡ true → x ≡ y) (own : (x : X) → same x x ≡ true) where
    above : (m : ℕ) (x : X) (ys : List X) → AllByRecursion (λ y. m ≤ f y) ys → 0 < count_by (same x) ys → m ≤ f x
    above m x [] all some = absurd (omega arith)
    above m x (y ∷ ys) all some =
        split (same x y)
        (λ t. let e = reflects x y t in rw e (all.0))
        (λ n. above m x ys all.1 (omega (arith, count_no (same x) y ys n)))

    -- a list that does not fall is the one that rises and has each element as often
    pub rising_is : (xs ys : List X) → Rises xs → RisesStrictly ys → ((e : X) → count_by (same e) xs ≡ count_by (same e) ys) → xs ≡ ys
    rising_is [] [] up strict counts = refl
    rising_is [] (y ∷ ys) up strict counts = absurd (omega (arith, count_yes (same y) y ys (own y), counts y))
    rising_is (x ∷ xs) [] up strict counts = absurd (omega (arith, count_yes (same x) x xs (own x), counts x))
    rising_is (x ∷ xs) (y ∷ ys) up strict counts =
        split (same x y)
        (λ t. let e = reflects x y t in
        let rest : (z : X) → count_by (same z) xs ≡ count_by (same z) ys =
        λ z. let s = ap (λ (w : X). cond {A = ℕ} (same z w) 1 0) e in
        omega (arith, count_by-cons (same z) x xs, count_by-cons (same z) y ys, counts z, s) in
        ap (λ w. w ∷ xs) e ∙ ap (λ l. y ∷ l) (rising_is xs ys up.1 strict.1 rest))
        (λ n. let back : same y x ≡ false = split (same y x) (λ u. cc (sym (ap (λ w. same w y) (reflects y x u)) ∙ own y, n)) (λ v. v) in
        let there : 0 < count_by (same x) ys = omega (arith, count_yes (same x) x xs (own x), count_no (same x) y ys n, counts x) in
        let here : 0 < count_by (same y) xs = omega (arith, count_yes (same y) y ys (own y), count_no (same y) x xs back, counts y) in
        let behind : f y < f x = above (suc (f y)) x ys strict.0 there in
        let ahead : f x ≤ f y = above (f x) y xs up.0 here in
        absurd (omega (arith, behind, ahead)))

count_none : {X : Type 0} (p : X → Bool) (xs : List X) → AllByRecursion (λ x. p x ≡ false) xs → count_by p xs ≡ 0
count_none p [] none = refl
count_none p (x ∷ xs) none = count_no p x xs none.0 ∙ count_none p xs none.1

-- a filter that keeps what passes leaves its number
count-filter : {X : Type 0} (p q : X → Bool) (xs : List X) → ((x : X) → p x ≡ true → q x ≡ true) → count_by p (filter q xs) ≡ count_by p xs
count-filter p q [] keeps = refl
count-filter p q (x ∷ xs) keeps =
    let ih = count-filter p q xs keeps in
    split (q x)
    (λ t. rw t (count_by-cons p x (filter q xs) ∙ ap (λ n. cond (p x) 1 0 + n) ih ∙ sym (count_by-cons p x xs)))
    (λ f. rw f (let no : p x ≡ false = split (p x) (λ t. cc (sym (keeps x t) ∙ f)) (λ n. n) in ih ∙ sym (count_no p x xs no)))

all-reverse : {X : Type 0} (P : X → Type 0) (xs : List X) → AllByRecursion P xs → AllByRecursion P (reverse xs)
all-reverse P [] all = tt
all-reverse P (x ∷ xs) all = rw (reverse-append (x ∷ []) xs) (all_push P (reverse xs) x (all-reverse P xs all.1) all.0)

all-weaker : {X : Type 0} (P Q : X → Type 0) (xs : List X) → ((x : X) → P x → Q x) → AllByRecursion P xs → AllByRecursion Q xs
all-weaker P Q [] h all = tt
all-weaker P Q (x ∷ xs) h all = (h x all.0, all-weaker P Q xs h all.1)

module _ {X : Type 0} (f : X → ℕ) where
  abbrev FallsStrictly : List X → Type 0
  FallsStrictly [] = ⊤
  FallsStrictly (x ∷ xs) = AllByRecursion (λ y. f y < f x) xs × FallsStrictly xs

  falls-filter : (q : X → Bool) (xs : List X) → FallsStrictly xs → FallsStrictly (filter q xs)
  falls-filter q [] fall = tt
  falls-filter q (x ∷ xs) fall =
      let ih = falls-filter q xs fall.1 in
      split (q x) (λ t. rw t (all-filter (λ y. f y < f x) q xs fall.0, ih)) (λ n. rw n ih)

  rises_backwards : (xs : List X) → FallsStrictly xs → RisesStrictly f (reverse xs)
  rises_backwards [] fall = tt
  rises_backwards (x ∷ xs) fall =
      rw (reverse-append (x ∷ []) xs) (strictly_push f (reverse xs) x (rises_backwards xs fall.1) (all-reverse (λ y. f y < f x) xs fall.0))

-- whether a position is that of an option
abbrev is_at : Option ℕ → ℕ → ℕ
is_at None v = 0
is_at (Some p) v = cond (v == p) 1 0

module _ {K : Type 0} (eq : K → K → Bool) (laws : IsEquivalence eq) where
  -- the distinct keys with the positions of their latest requests, the latest first
  abbrev pub firsts_at : List K → List (K × ℕ)
  firsts_at [] = []
  firsts_at (x ∷ past) = (x, length past) ∷ filter (λ e. not (eq x e.0)) (firsts_at past)

  abbrev same_at : K × ℕ → K × ℕ → Bool
  same_at a b = eq a.0 b.0 && a.1 == b.1

  keys-filter : (x : K) (es : List (K × ℕ)) → keys_of (filter (λ e. not (eq x e.0)) es) ≡ filter (λ y. not (eq x y)) (keys_of es)
  keys-filter x [] = refl
  keys-filter x (e ∷ es) = let ih = keys-filter x es in split (eq x e.0) (λ t. rw t ih) (λ f. rw f (ap (λ l. e.0 ∷ l) ih))

  keys-firsts_at : (past : List K) → keys_of (firsts_at past) ≡ firsts eq past
  keys-firsts_at [] = refl
  keys-firsts_at (x ∷ past) = ap (λ l. x ∷ l) (keys-filter x (firsts_at past) ∙ ap (filter (λ y. not (eq x y))) (keys-firsts_at past))

  earlier : (past : List K) → AllByRecursion (λ e. e.1 < length past) (firsts_at past)
  earlier [] = tt
  earlier (x ∷ past) = (
    omega arith,
    all-filter (λ e. e.1 < length (x ∷ past)) (λ e. not (eq x e.0)) (firsts_at past)
        (all-weaker (λ e. e.1 < length past) (λ e. e.1 < length (x ∷ past)) (firsts_at past) (λ e h. omega (arith, h)) (earlier past)),
  )

  falls : (past : List K) → FallsStrictly (λ (e : K × ℕ). e.1) (firsts_at past)
  falls [] = tt
  falls (x ∷ past) = (
    all-filter (λ e. e.1 < length past) (λ e. not (eq x e.0)) (firsts_at past) (earlier past),
    falls-filter (λ (e : K × ℕ). e.1) (λ e. not (eq x e.0)) (firsts_at past) (falls past),
  )

  none_filtered : (x k : K) (v : ℕ) (es : List (K × ℕ)) → eq k x ≡ true
      → AllByRecursion (λ e. same_at (k, v) e ≡ false) (filter (λ e. not (eq x e.0)) es)
  none_filtered x k v [] same = tt
  none_filtered x k v (e ∷ es) same =
      let ih = none_filtered x k v es same in
      split (eq x e.0) (λ t. rw t ih)
      (λ f. let no : eq k e.0 ≡ false = laws.congr k x e.0 same ∙ f in rw f (rw no refl, ih))

  -- the position of the latest request of a key stands there once, and no other position with it
  pub count-firsts_at : (k : K) (v : ℕ) (past : List K) (latest : Option ℕ) → is_some latest ≡ holds eq k past
      → IfSome latest (λ p. p + 1 + length (since eq k past) ≡ length past) → count_by (same_at (k, v)) (firsts_at past) ≡ is_at latest v
  count-firsts_at k v [] None known at = refl
  count-firsts_at k v [] (Some p) known at = cc
  count-firsts_at k v (x ∷ past) latest known at =
      split (eq k x)
      (λ t. first latest (rw t at known) (rw (since-cons eq k x past, t) at at) t)
      (λ f. let here : same_at (k, v) (x, length past) ≡ false = rw f refl in
      let kept : (e : K × ℕ) → same_at (k, v) e ≡ true → not (eq x e.0) ≡ true =
      λ e h. let there = (and_parts (eq k e.0) (v == e.1) h).0 in
      split (eq x e.0) (λ t. cc (sym (laws.congr x e.0 k t ∙ laws.symm e.0 k ∙ there) ∙ laws.symm x k ∙ f)) (λ n. rw n refl) in
      count_no (same_at (k, v)) (x, length past) (filter (λ e. not (eq x e.0)) (firsts_at past)) here
      ∙ count-filter (same_at (k, v)) (λ e. not (eq x e.0)) (firsts_at past) kept
      ∙ count-firsts_at k v past latest (rw f at known) (later latest (rw (since-cons eq k x past, f) at at)))
    where
      first : (latest : Option ℕ) → is_some latest ≡ true → IfSome latest (λ p. p + 1 + length {A = K} [] ≡ length (x ∷ past)) → eq k x ≡ true
          → count_by (same_at (k, v)) (firsts_at (x ∷ past)) ≡ is_at latest v
      first None known at t = cc
      first (Some p) known at t =
          let is : p ≡ length past = omega (arith, at) in
          count_by-cons (same_at (k, v)) (x, length past) (filter (λ e. not (eq x e.0)) (firsts_at past))
          ∙ ap (λ n. cond (eq k x && v == length past) 1 0 + n)
          (count_none (same_at (k, v)) (filter (λ e. not (eq x e.0)) (firsts_at past)) (none_filtered x k v (firsts_at past) t))
          ∙ rw (t, is) (omega arith)

      later : (latest : Option ℕ) → IfSome latest (λ p. p + 1 + length (x ∷ since eq k past) ≡ length (x ∷ past))
          → IfSome latest (λ p. p + 1 + length (since eq k past) ≡ length past)
      later None at = at
      later (Some p) at = omega (arith, at)

  none_held : (k : K) (v : ℕ) (es : List (K × ℕ)) → holds eq k (keys_of es) ≡ false → AllByRecursion (λ e. same_at (k, v) e ≡ false) es
  none_held k v [] none = tt
  none_held k v (e ∷ es) none =
      split (eq k e.0) (λ t. cc (rw t at none)) (λ f. rw f (refl, none_held k v es (rw f at none)))

  abbrev AreApart : List K → Type 0
  AreApart [] = ⊤
  AreApart (x ∷ xs) = (holds eq x xs ≡ false) × AreApart xs

  lasts_apart : (rs : List K) → AreApart (lasts eq rs)
  lasts_apart [] = tt
  lasts_apart (x ∷ rs) = let ih = lasts_apart rs in split (holds eq x rs) (λ t. rw t ih) (λ f. rw f (holds-lasts eq laws x rs ∙ f, ih))

  -- in entries whose keys differ, the value of a key stands with it once, and no other value
  count-lookup : (k : K) (v : ℕ) (es : List (K × ℕ)) → AreApart (keys_of es) → count_by (same_at (k, v)) es ≡ is_at (lookup (eq k) es) v
  count-lookup k v [] apart = refl
  count-lookup k v (e ∷ es) apart =
      split (eq k e.0)
      (λ t. let none = none_held k v es (holds_same eq laws k e.0 (keys_of es) t ∙ apart.0) in
      count_by-cons (same_at (k, v)) e es ∙ ap (λ n. cond (eq k e.0 && v == e.1) 1 0 + n) (count_none (same_at (k, v)) es none)
      ∙ rw t (omega arith))
      (λ f. let here : same_at (k, v) e ≡ false = rw f refl in
      count_no (same_at (k, v)) e es here ∙ rw f (count-lookup k v es apart.1))

  module _ (reflects : (x y : K) → eq x y ≡ true → x ≡ y) where
    same_at_is : (a b : K × ℕ) → same_at a b ≡ true → a ≡ b
    same_at_is a b h =
        let parts = and_parts (eq a.0 b.0) (a.1 == b.1) h in
        let key = reflects a.0 b.0 parts.0 in
        let at : a.1 ≡ b.1 = grind (arith, nat_tests, parts.1) in
        ap (λ (x : K). let e : K × ℕ = (x, a.1) in e) key ∙ ap (λ (n : ℕ). let e : K × ℕ = (b.0, n) in e) at

    -- entries that hold the position of the latest request of each key, sorted by it, have the latest requests in their order
    pub latest_order : (past : List K) (es sorted : List (K × ℕ)) → keys_of es ≡ lasts eq past
        → ((k : K) → is_some (lookup (eq k) es) ≡ holds eq k past)
        → ((k : K) → IfSome (lookup (eq k) es) (λ p. p + 1 + length (since eq k past) ≡ length past))
        → IsPermutation es sorted → IsNonDecreasingBy (λ e. e.1) sorted → keys_of sorted ≡ lasts eq (reverse past)
    latest_order past es sorted keys known at moved rising =
        let f : K × ℕ → ℕ = λ e. e.1 in
        let backwards = reverse (firsts_at past) in
        let apart : AreApart (keys_of es) = let P : List K → Type 0 = AreApart in subst P (sym keys) (lasts_apart past) in
        let counts : (e : K × ℕ) → count_by (same_at e) sorted ≡ count_by (same_at e) backwards =
        λ e. sum_by-IsPermutation (λ x. cond (same_at e x) 1 0) es sorted moved
        ∙ count-lookup e.0 e.1 es apart ∙ sym (count-firsts_at e.0 e.1 past (lookup (eq e.0) es) (known e.0) (at e.0))
        ∙ sym (sum_by-IsPermutation (λ x. cond (same_at e x) 1 0) (firsts_at past) backwards (IsPermutation-reverse (firsts_at past))) in
        let is : sorted ≡ backwards =
        rising_is f same_at same_at_is (λ e. rw (laws.refl e.0) (eq-eqb e.1 e.1 refl)) sorted backwards (rises f sorted rising)
        (rises_backwards f (firsts_at past) (falls past)) counts in
        let turned : lasts eq (reverse past) ≡ reverse (firsts eq past) =
        sym (reverse-reverse (lasts eq (reverse past))) ∙ ap reverse (reverse-lasts eq laws (reverse past) ∙ ap (firsts eq) (reverse-reverse past)) in
        ap keys_of is ∙ map-reverse (λ (e : K × ℕ). e.0) (firsts_at past) ∙ ap reverse (keys-firsts_at past) ∙ sym turned
