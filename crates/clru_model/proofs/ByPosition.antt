-- The computed hits are the hits by positions.
use Rattle.std.proofs.Common.{◌≡◌, ℕ, zero, suc, ◌+◌, ◌-◌, ◌<◌, Bool, true, false, ◌↔◌, ◌||◌, List, [], ◌∷◌}
use Rattle.std.proofs.Common.{◌++◌, length, reverse, refl, sym, ap, ◌∙◌, subst₂, arith, append_assoc, append-nil, Some, ltb, ltb-true, lt-ltb, length-append}
use Rattle.std.proofs.lemmas.List.{reverse-append, reverse-reverse}
use Rattle.std.proofs.lemmas.Bool.{and_parts, and_from, or_right}
use Rattle.std.proofs.lemmas.Option.{same_Some, slice_get_within}
use Rattle.std.specs.Cmp.{IsEquivalence}
use Rattle.std.specs.List.{slice_get, slice_range}
use Rattle.clru_model.proofs.Cases.{split}
use Rattle.clru_model.specs.Requests.{holds, distinct, since, hit, marks_after, marks}
use Rattle.clru_model.proofs.Distinct.{holds-append, since-cons, not_since}
use Rattle.clru_model.proofs.Marks.{reverse-cons-append}
use Rattle.clru_model.specs.ByPosition.{IsHitAt}
use Rattle.clru_model.proofs.Counting.{count_unique}
use Rattle.clru_model.proofs.DistinctByPosition.{distinct_by_position}
use Rattle.clru_model.proofs.Positions.{slice_get-append_right, slice_get_middle, slice_get_between, slice_range_between}
use Rattle.clru_model.proofs.Positions.{split_at_two_positions, LacksKey_from_holds, holds_from_LacksKey, holds-reverse}

module _ {K : Type 0} (eq : K → K → Bool) where
  -- there is one mark for each request
  pub length-marks_after : (past : List K) (k : ℕ) (rs : List K) → length (marks_after eq k past rs) ≡ length rs
  length-marks_after past k [] = refl
  length-marks_after past k (x ∷ rs) = ap suc (length-marks_after (x ∷ past) k rs)

  -- a mark is whether the request at its position hits after those before it
  marks_after_at : (past : List K) (k : ℕ) (rs : List K) (i : ℕ) (b : Bool) → slice_get (marks_after eq k past rs) i ≡ Some b
      → (before : List K) × (x : K) × (after : List K) × (rs ≡ before ++ x ∷ after) × (length before ≡ i) × (hit eq k x (reverse before ++ past) ≡ b)
  marks_after_at past k [] i b h = cc
  marks_after_at past k (x ∷ rs) zero b h = ([], x, rs, refl, refl, same_Some _ _ h)
  marks_after_at past k (x ∷ rs) (suc i) b h =
      let (before, y, after, e, n, m) = marks_after_at (x ∷ past) k rs i b h in
      (x ∷ before, y, after, ap (λ l. x ∷ l) e, ap suc n, ap (λ l. hit eq k y l) (reverse-cons-append eq x before past) ∙ m)

  -- the mark of the request after some others
  marks_after_next : (past : List K) (k : ℕ) (before : List K) (x : K) (after : List K)
      → slice_get (marks_after eq k past (before ++ x ∷ after)) (length before) ≡ Some (hit eq k x (reverse before ++ past))
  marks_after_next past k [] x after = refl
  marks_after_next past k (y ∷ before) x after =
      marks_after_next (y ∷ past) k before x after ∙ ap (λ l. Some (hit eq k x l)) (sym (reverse-cons-append eq y before past))

  -- requests of which one is of x are those since the latest such request, that one, and older ones
  pub split_since : (x : K) (past : List K) → holds eq x past ≡ true
      → (y : K) × (older : List K) × (past ≡ since eq x past ++ y ∷ older) × (eq x y ≡ true)
  split_since x [] h = cc
  split_since x (y ∷ past) h =
      split (eq x y)
      (λ t. (y, past, rw (since-cons eq x y past, t) refl, t))
      (λ f. let (z, older, e, same) = split_since x past (rw f at h) in
      (z, older, rw (since-cons eq x y past, f) (ap (λ l. y ∷ l) e), same))

  -- the requests since the latest one of x, where it is written out
  pub since_split : (x y : K) (recent older : List K) → holds eq x recent ≡ false → eq x y ≡ true → since eq x (recent ++ y ∷ older) ≡ recent
  since_split x y [] older none same = rw (since-cons eq x y older, same) refl
  since_split x y (z ∷ recent) older none same =
      split (eq x z) (λ t. cc (rw t at none))
      (λ f. rw (since-cons eq x z (recent ++ y ∷ older), f) (ap (λ l. z ∷ l) (since_split x y recent older (rw f at none) same)))

  -- a list with one element in the middle, reversed
  pub reverse_middle : (xs ys : List K) (y : K) → reverse (xs ++ y ∷ ys) ≡ reverse ys ++ y ∷ reverse xs
  reverse_middle xs ys y = reverse-append xs (y ∷ ys) ∙ reverse-cons-append eq y ys (reverse xs)

  -- a request hits where one of the same key came before it, with fewer than k distinct keys and no such request between
  hit_after_middle : (k : ℕ) (before : List K) (y : K) (between : List K) (x : K) → eq x y ≡ true → holds eq x between ≡ false
      → distinct eq (reverse between) < k → hit eq k x (reverse (before ++ y ∷ between)) ≡ true
  hit_after_middle k before y between x same none few =
      let recent : List K = reverse between in
      let apart : holds eq x recent ≡ false = holds-reverse eq x between ∙ none in
      rw (reverse_middle before between y, holds-append eq x recent (y ∷ reverse before), same, since_split x y recent (reverse before) apart same)
      (and_from (holds eq x recent || true) (ltb (distinct eq recent) k) (or_right (holds eq x recent) true refl) (lt-ltb (distinct eq recent) k few))

  -- the same as a mark
  marks_at_middle : (k : ℕ) (before : List K) (y : K) (between : List K) (x : K) (after : List K) → eq x y ≡ true → holds eq x between ≡ false
      → distinct eq (reverse between) < k
      → slice_get (marks eq k (before ++ y ∷ (between ++ x ∷ after))) (length before + suc (length between)) ≡ Some true
  marks_at_middle k before y between x after same none few =
      let n : length before + suc (length between) ≡ length (before ++ y ∷ between) = sym (length-append before (y ∷ between)) in
      let front = before ++ y ∷ between in
      rw (n, ← append_assoc before (y ∷ between) (x ∷ after))
      (marks_after_next [] k front x after
      ∙ ap Some (ap (λ l. hit eq k x l) (append-nil (reverse front)) ∙ hit_after_middle k before y between x same none few))

  -- a key that is not requested between two positions is the same as none there
  pub latest_middle : (before : List K) (y : K) (between : List K) (x : K) (after : List K) → holds eq x between ≡ false
      → (p : ℕ) (z : K) → length before < p → p < length before + suc (length between)
      → slice_get (before ++ y ∷ (between ++ x ∷ after)) p ≡ Some z → eq x z ≡ false
  latest_middle before y between x after none p z low high at =
      let j : p ≡ length before + suc (p - length before - 1) = omega arith in
      let within : p - length before - 1 < length between = omega arith in
      LacksKey_from_holds eq between x none (p - length before - 1) z
      (sym (slice_get_between before y between (x ∷ after) (p - length before - 1) within)
      ∙ ap (slice_get (before ++ y ∷ (between ++ x ∷ after))) (sym j) ∙ at)

  -- and the other way round
  pub none_between : (before : List K) (y : K) (between : List K) (x : K) (after : List K)
      → ((p : ℕ) (z : K) → length before < p → p < length before + suc (length between)
      → slice_get (before ++ y ∷ (between ++ x ∷ after)) p ≡ Some z → eq x z ≡ false)
      → holds eq x between ≡ false
  none_between before y between x after latest = holds_from_LacksKey eq between x (λ p z at.
      let within = slice_get_within between p z at in
      latest (length before + suc p) z (omega arith) (omega arith) (slice_get_between before y between (x ∷ after) p within ∙ at))

  -- the same by positions
  IsHitAt_middle : (k : ℕ) (before : List K) (y : K) (between : List K) (x : K) (after : List K) → eq x y ≡ true → holds eq x between ≡ false
      → distinct eq (reverse between) < k → IsHitAt eq k (before ++ y ∷ (between ++ x ∷ after)) (length before + suc (length between))
  IsHitAt_middle k before y between x after same none few = record {
    key = x;
    requested = slice_get-append_right before (y ∷ (between ++ x ∷ after)) (suc (length between)) ∙ slice_get_middle between after x;
    before = length before;
    earlier = omega arith;
    key_before = y;
    requested_before = slice_get_middle before (between ++ x ∷ after) y;
    same = same;
    latest = latest_middle before y between x after none;
    between = distinct eq (reverse between);
    distinct_between = rw slice_range_between (distinct_by_position eq between);
    few = few;
  }

  -- the same from what the positions between tell
  marks_at_positions : (k : ℕ) (before : List K) (y : K) (between : List K) (x : K) (after : List K) (rs : List K) (i : ℕ)
      → before ++ y ∷ (between ++ x ∷ after) ≡ rs → length before + suc (length between) ≡ i → eq x y ≡ true
      → ((p : ℕ) (z : K) → length before < p → p < i → slice_get rs p ≡ Some z → eq x z ≡ false)
      → distinct eq (reverse (slice_range rs (length before + 1) i)) < k → slice_get (marks eq k rs) i ≡ Some true
  marks_at_positions k before y between x after rs i e n same =
      subst₂ (λ l j. ((p : ℕ) (z : K) → length before < p → p < j → slice_get l p ≡ Some z → eq x z ≡ false)
      → distinct eq (reverse (slice_range l (length before + 1) j)) < k → slice_get (marks eq k l) j ≡ Some true) e n
      (λ latest few.
      let none = none_between before y between x after latest in
      let less : distinct eq (reverse between) < k = rw slice_range_between at few in
      marks_at_middle k before y between x after same none less)

  -- a hit by positions is a mark
  marks_from_IsHitAt : (k : ℕ) (rs : List K) (i : ℕ) → IsHitAt eq k rs i → slice_get (marks eq k rs) i ≡ Some true
  marks_from_IsHitAt k rs i r =
      let (before, between, after, e, n, m) = split_at_two_positions rs r.before i r.key_before r.key r.earlier r.requested_before r.requested in
      marks_at_positions k before r.key_before between r.key after rs i (sym e) (sym m) r.same
      (λ p z low high at. r.latest p z (rw n at low) high at)
      (rw (n, ← count_unique r.distinct_between (distinct_by_position eq (slice_range rs (r.before + 1) i))) r.few)

module _ {K : Type 0} (eq : K → K → Bool) (laws : IsEquivalence eq) where
  -- what stands before a hit, split at the latest request of its key
  split_at_hit : (k : ℕ) (front : List K) (x : K) → hit eq k x (reverse front) ≡ true → (before : List K) × (y : K) × (between : List K)
      × (before ++ y ∷ between ≡ front) × (eq x y ≡ true) × (holds eq x between ≡ false) × (distinct eq (reverse between) < k)
  split_at_hit k front x h =
      let parts = and_parts (holds eq x (reverse front)) (ltb (distinct eq (since eq x (reverse front))) k) h in
      let (y, older, e, same) = split_since eq x (reverse front) parts.0 in
      let recent : List K = since eq x (reverse front) in
      let f : reverse older ++ y ∷ reverse recent ≡ front = sym (reverse_middle eq recent older y) ∙ ap reverse (sym e) ∙ reverse-reverse front in
      let few : distinct eq (reverse (reverse recent)) < k = rw reverse-reverse (ltb-true (distinct eq recent) k parts.1) in
      (reverse older, y, reverse recent, f, same, holds-reverse eq x recent ∙ not_since eq laws x (reverse front), few)

  -- a mark is a hit by positions
  IsHitAt_from_marks : (k : ℕ) (rs : List K) (i : ℕ) → slice_get (marks eq k rs) i ≡ Some true → IsHitAt eq k rs i
  IsHitAt_from_marks k rs i h =
      let (front, x, after, e, n, m) = marks_after_at eq [] k rs i true h in
      let (before, y, between, f, same, none, few) = split_at_hit k front x (rw append-nil at m) in
      let position : length before + suc (length between) ≡ i = sym (length-append before (y ∷ between)) ∙ ap length f ∙ n in
      let list : before ++ y ∷ (between ++ x ∷ after) ≡ rs =
      sym (append_assoc before (y ∷ between) (x ∷ after)) ∙ ap (λ l. l ++ x ∷ after) f ∙ sym e in
      subst₂ (λ l j. IsHitAt eq k l j) list position (IsHitAt_middle eq k before y between x after same none few)

  -- the marks are the hits by positions
  pub marks_by_position : (k i : ℕ) (rs : List K) → (slice_get (marks eq k rs) i ≡ Some true) ↔ IsHitAt eq k rs i
  marks_by_position k i rs = (IsHitAt_from_marks k rs i, marks_from_IsHitAt eq k rs i)
