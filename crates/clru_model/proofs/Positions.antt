-- Elements by their positions, and keys held by their positions.
use Rattle.std.proofs.Common.{◌≡◌, ℕ, zero, suc, ◌+◌, ◌<◌, Bool, true, false, ◌||◌, List, [], ◌∷◌, ◌++◌, length}
use Rattle.std.proofs.Common.{reverse, refl, sym, ap, ◌∙◌, arith, suc-add, zero-add, drop, take_at, drop_at, append_assoc, ◌-◌, get_or, Some}
use Rattle.std.proofs.lemmas.List.{reverse-append, length_push}
use Rattle.std.proofs.lemmas.List.Sums.{AllPass-from_list_all, list_all-from_AllPass}
use Rattle.std.proofs.lemmas.Option.{get_or_from_slice_get, slice_get-get_or, slice_get_within}
use Rattle.std.proofs.Math.Bool.{or_comm}
use Rattle.std.proofs.lemmas.Bool.{false_from_ne_true}
use Rattle.std.proofs.lemmas.Map.Keys.{any_passes_from_place}
use Rattle.std.specs.List.{slice_get, slice_range, list_all}
use Rattle.clru_model.proofs.Cases.{split}
use Rattle.clru_model.specs.Requests.{holds}
use Rattle.clru_model.proofs.Distinct.{holds-append}
use Rattle.clru_model.specs.ByPosition.{HasKey, LacksKey}

module _ {X : Type 0} where
  -- the elements of the second of two lists in a row
  pub slice_get-append_right : (xs ys : List X) (p : ℕ) → slice_get (xs ++ ys) (length xs + p) ≡ slice_get ys p
  slice_get-append_right [] ys p = rw zero-add refl
  slice_get-append_right (x ∷ xs) ys p = rw suc-add (slice_get-append_right xs ys p)

  -- the elements of the first of two lists in a row
  pub slice_get-append_left : (xs ys : List X) (p : ℕ) → p < length xs → slice_get (xs ++ ys) p ≡ slice_get xs p
  slice_get-append_left [] ys p h = absurd (omega arith)
  slice_get-append_left (x ∷ xs) ys zero h = refl
  slice_get-append_left (x ∷ xs) ys (suc p) h = slice_get-append_left xs ys p (omega arith)

  -- the element between two lists
  pub slice_get_middle : (xs ys : List X) (y : X) → slice_get (xs ++ y ∷ ys) (length xs) ≡ Some y
  slice_get_middle [] ys y = refl
  slice_get_middle (x ∷ xs) ys y = slice_get_middle xs ys y

  -- the elements between two positions
  pub slice_get_between : (before : List X) (y : X) (between after : List X) (p : ℕ) → p < length between
      → slice_get (before ++ y ∷ (between ++ after)) (length before + suc p) ≡ slice_get between p
  slice_get_between before y between after p within =
      slice_get-append_right before (y ∷ (between ++ after)) (suc p) ∙ slice_get-append_left between after p within

  -- the part between two positions
  pub slice_range_between : (before : List X) (y : X) (between after : List X)
      → slice_range (before ++ y ∷ (between ++ after)) (length before + 1) (length before + suc (length between)) ≡ between
  slice_range_between before y between after =
      let n : length before + suc (length between) - (length before + 1) ≡ length between = omega arith in
      let d : drop (length before + 1) (before ++ y ∷ (between ++ after)) ≡ between ++ after =
      ap (drop (length before + 1)) (sym (append_assoc before (y ∷ []) (between ++ after)))
      ∙ drop_at (before ++ y ∷ []) (between ++ after) (length before + 1) (length_push before y) in
      rw (n, d) (take_at between after (length between) refl)

  -- a list is what stands before a position, the element there, and what stands after it
  pub split_at_position : (xs : List X) (p : ℕ) (x : X) → slice_get xs p ≡ Some x
      → (before after : List X) × (xs ≡ before ++ x ∷ after) × (length before ≡ p)
  split_at_position [] p x h = cc
  split_at_position (y ∷ xs) zero x h = ([], xs, cc, refl)
  split_at_position (y ∷ xs) (suc p) x h =
      let (before, after, e, n) = split_at_position xs p x h in
      (y ∷ before, after, ap (λ l. y ∷ l) e, ap suc n)

  -- the same at two positions
  pub split_at_two_positions : (xs : List X) (p i : ℕ) (y x : X) → p < i → slice_get xs p ≡ Some y → slice_get xs i ≡ Some x
      → (before between after : List X) × (xs ≡ before ++ y ∷ (between ++ x ∷ after)) × (length before ≡ p)
      × (i ≡ length before + suc (length between))
  split_at_two_positions [] p i y x order h g = cc
  split_at_two_positions (z ∷ xs) p zero y x order h g = absurd (omega arith)
  split_at_two_positions (z ∷ xs) zero (suc i) y x order h g =
      let (between, after, e, n) = split_at_position xs i x g in
      ([], between, after, cc, refl, omega (arith, n))
  split_at_two_positions (z ∷ xs) (suc p) (suc i) y x order h g =
      let (before, between, after, e, n, m) = split_at_two_positions xs p i y x (omega arith) h g in
      (z ∷ before, between, after, ap (λ l. z ∷ l) e, ap suc n, omega (arith, m))

  -- a test of all elements passes at each position
  pub list_all_at : (test : X → Bool) (xs : List X) (p : ℕ) (x : X) → list_all test xs ≡ true → slice_get xs p ≡ Some x → test x ≡ true
  list_all_at test xs p x all at =
      rw (get_or_from_slice_get xs p x x at) at (AllPass-from_list_all test xs all p x (slice_get_within xs p x at))

  -- a test that passes at each position passes of all elements
  pub list_all_from_positions : (test : X → Bool) (xs : List X) → ((p : ℕ) (x : X) → slice_get xs p ≡ Some x → test x ≡ true) → list_all test xs ≡ true
  list_all_from_positions test xs each = list_all-from_AllPass test xs (λ p d within. each p (get_or xs p d) (slice_get-get_or xs p d within))

module _ {K : Type 0} (eq : K → K → Bool) where
  -- a key that is held has a position
  pub HasKey_from_holds : (ks : List K) (x : K) → holds eq x ks ≡ true → HasKey eq x ks
  HasKey_from_holds [] x h = cc
  HasKey_from_holds (k ∷ ks) x h =
      split (eq x k) (λ t. (0, k, refl, t)) (λ f. let (p, y, at, same) = HasKey_from_holds ks x (rw f at h) in (suc p, y, at, same))

  -- a key that has a position is held
  pub holds_from_HasKey : (ks : List K) (x : K) → HasKey eq x ks → holds eq x ks ≡ true
  holds_from_HasKey ks x (p, y, at, same) = any_passes_from_place (eq x) ks p y at same

  -- a key that is not held has no position
  pub LacksKey_from_holds : (ks : List K) (x : K) → holds eq x ks ≡ false → LacksKey eq x ks
  LacksKey_from_holds ks x h p y at = false_from_ne_true (eq x y) (λ t. cc (any_passes_from_place (eq x) ks p y at t))

  -- a key that has no position is not held
  pub holds_from_LacksKey : (ks : List K) (x : K) → LacksKey eq x ks → holds eq x ks ≡ false
  holds_from_LacksKey ks x none = false_from_ne_true (holds eq x ks) (λ t.
      let (p, y, at, same) = HasKey_from_holds ks x t in cc (none p y at))

  -- the order of the keys does not matter for whether one is held
  pub holds-reverse : (x : K) (ks : List K) → holds eq x (reverse ks) ≡ holds eq x ks
  holds-reverse x [] = refl
  holds-reverse x (k ∷ ks) =
      ap (holds eq x) (reverse-append (k ∷ []) ks) ∙ holds-append eq x (reverse ks) (k ∷ [])
      ∙ or_comm (holds eq x (reverse ks)) (eq x k || false) ∙ ap (λ b. (eq x k || false) || b) (holds-reverse x ks)
      ∙ ap (λ b. b || holds eq x ks) (or_comm (eq x k) false)
