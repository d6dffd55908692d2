-- The computed spans are the spans by positions.
use Rattle.std.proofs.Common.{◌≡◌, ℕ, zero, suc, ◌+◌, ◌<◌, Bool, true, false, List, [], ◌∷◌, ◌++◌, length, reverse}
use Rattle.std.proofs.Common.{Option, Some, inl, inr, refl, sym, ap, ◌∙◌, subst, subst₂, arith, append_assoc, append-nil, length-append}
use Rattle.std.proofs.lemmas.List.{reverse-append, reverse-reverse}
use Rattle.std.proofs.lemmas.Option.{same_Some}
use Rattle.std.specs.Cmp.{IsEquivalence}
use Rattle.std.specs.List.{slice_get, slice_range}
use Rattle.std.specs.Option.{option_map_or}
use Rattle.clru_model.specs.ByPosition.{IsFirstAt}
use Rattle.clru_model.specs.Requests.{holds, since}
use Rattle.clru_model.specs.Sizes.{total, span, spans, spans_after}
use Rattle.clru_model.specs.SpansByPosition.{IsSumOf, IsSpanAt, size_at, SpansAreByPosition}
use Rattle.clru_model.proofs.ByPosition.{split_since, since_split, reverse_middle, latest_middle, none_between}
use Rattle.clru_model.proofs.Cases.{split}
use Rattle.clru_model.proofs.Distinct.{holds-append, not_since}
use Rattle.clru_model.proofs.DistinctByPosition.{first_still, first_before, first_new, first_within}
use Rattle.clru_model.proofs.Marks.{reverse-cons-append}
use Rattle.clru_model.proofs.Positions.{slice_get-append_left, slice_get-append_right, slice_get_middle, slice_range_between}
use Rattle.clru_model.proofs.Positions.{split_at_two_positions, holds-reverse}
use Rattle.clru_model.proofs.Summing.{sum_none, sum_same, sum_next, sum_unique}

module _ {K : Type 0} (eq : K → K → Bool) (weight : K → ℕ) where
  -- a request's size is its size with one more request at the end
  size_still : (xs : List K) (x : K) (p : ℕ) → IsFirstAt eq xs p → size_at weight xs p ≡ size_at weight (xs ++ x ∷ []) p
  size_still xs x p f =
      ap (λ o. option_map_or (λ y. 1 + weight y) o 0) (sym (slice_get-append_left xs (x ∷ []) p (first_within eq xs p f)))

  -- the sum with one more request
  total_next : (xs : List K) (x : K) (n m : ℕ) → IsSumOf (IsFirstAt eq xs) (size_at weight xs) n → (holds eq x xs ≡ true → m ≡ n)
      → (holds eq x xs ≡ false → m ≡ 1 + weight x + n) → IsSumOf (IsFirstAt eq (xs ++ x ∷ [])) (size_at weight (xs ++ x ∷ [])) m
  total_next xs x n m c old new = split (holds eq x xs)
      (λ t. rw (old t) (sum_same c (first_still eq xs x) (λ p f. elim (first_before eq xs x p f) [
        | inl before ↦ before
        | inr last ↦ cc
      ]) (size_still xs x)))
      (λ f. let sizes = size_at weight (xs ++ x ∷ []) in
      let all : IsSumOf (IsFirstAt eq (xs ++ x ∷ [])) sizes (sizes (length xs) + n) =
      sum_next (length xs) c (first_within eq xs) (first_still eq xs x) (first_new eq xs x f) (λ p g. elim (first_before eq xs x p g) [
        | inl before ↦ inl before
        | inr last ↦ inr last.0
      ]) (size_still xs x) in
      let here : sizes (length xs) ≡ 1 + weight x = ap (λ o. option_map_or (λ y. 1 + weight y) o 0) (slice_get_middle xs [] x) in
      subst (λ k. IsSumOf (IsFirstAt eq (xs ++ x ∷ [])) sizes k) (ap (λ k. k + n) here ∙ sym (new f)) all)

  total_of_past : (past : List K) → IsSumOf (IsFirstAt eq (reverse past)) (size_at weight (reverse past)) (total eq weight past)
  total_of_past [] = sum_none (IsFirstAt eq []) (size_at weight []) (λ p f. let at = f.at in cc)
  total_of_past (x ∷ older) =
      subst (λ l. IsSumOf (IsFirstAt eq l) (size_at weight l) (total eq weight (x ∷ older))) (sym (reverse-append (x ∷ []) older))
      (total_next (reverse older) x (total eq weight older) (total eq weight (x ∷ older)) (total_of_past older)
      (λ t. let held : holds eq x older ≡ true = sym (holds-reverse eq x older) ∙ t in rw held refl)
      (λ f. let new : holds eq x older ≡ false = sym (holds-reverse eq x older) ∙ f in rw new refl))

  -- the size of the distinct keys is that of the requests that stand somewhere first
  pub total_by_position : (ks : List K) → IsSumOf (IsFirstAt eq ks) (size_at weight ks) (total eq weight (reverse ks))
  total_by_position ks =
      subst (λ l. IsSumOf (IsFirstAt eq l) (size_at weight l) (total eq weight (reverse ks))) (reverse-reverse ks) (total_of_past (reverse ks))

  -- there is one span for each request
  pub length-spans_after : (past rs : List K) → length (spans_after eq weight past rs) ≡ length rs
  length-spans_after past [] = refl
  length-spans_after past (x ∷ rs) = ap suc (length-spans_after (x ∷ past) rs)

  -- a span is that of the request at its position after those before it
  spans_after_at : (past rs : List K) (i : ℕ) (s : Option ℕ) → slice_get (spans_after eq weight past rs) i ≡ Some s
      → (before : List K) × (x : K) × (after : List K) × (rs ≡ before ++ x ∷ after) × (length before ≡ i) × (span eq weight x (reverse before ++ past) ≡ s)
  spans_after_at past [] i s h = cc
  spans_after_at past (x ∷ rs) zero s h = ([], x, rs, refl, refl, same_Some _ _ h)
  spans_after_at past (x ∷ rs) (suc i) s h =
      let (before, y, after, e, n, m) = spans_after_at (x ∷ past) rs i s h in
      (x ∷ before, y, after, ap (λ l. x ∷ l) e, ap suc n, ap (λ l. span eq weight y l) (reverse-cons-append eq x before past) ∙ m)

  -- the span of the request after some others
  spans_after_next : (past before : List K) (x : K) (after : List K)
      → slice_get (spans_after eq weight past (before ++ x ∷ after)) (length before) ≡ Some (span eq weight x (reverse before ++ past))
  spans_after_next past [] x after = refl
  spans_after_next past (y ∷ before) x after =
      spans_after_next (y ∷ past) before x after ∙ ap (λ l. Some (span eq weight x l)) (sym (reverse-cons-append eq y before past))

  -- the span of a request after one of the same key, with no such request between
  span_after_middle : (before : List K) (y : K) (between : List K) (x : K) → eq x y ≡ true → holds eq x between ≡ false
      → span eq weight x (reverse (before ++ y ∷ between)) ≡ Some (1 + weight x + total eq weight (reverse between))
  span_after_middle before y between x same none =
      let recent : List K = reverse between in
      let apart : holds eq x recent ≡ false = holds-reverse eq x between ∙ none in
      rw (
        reverse_middle eq before between y,
        holds-append eq x recent (y ∷ reverse before),
        apart,
        same,
        since_split eq x y recent (reverse before) apart same,
      ) refl

  -- the same in the list of spans
  spans_at_middle : (before : List K) (y : K) (between : List K) (x : K) (after : List K) → eq x y ≡ true → holds eq x between ≡ false
      → slice_get (spans eq weight (before ++ y ∷ (between ++ x ∷ after))) (length before + suc (length between))
      ≡ Some (Some (1 + weight x + total eq weight (reverse between)))
  spans_at_middle before y between x after same none =
      let n : length before + suc (length between) ≡ length (before ++ y ∷ between) = sym (length-append before (y ∷ between)) in
      let front = before ++ y ∷ between in
      rw (n, ← append_assoc before (y ∷ between) (x ∷ after))
      (spans_after_next [] front x after
      ∙ ap Some (ap (λ l. span eq weight x l) (append-nil (reverse front)) ∙ span_after_middle before y between x same none))

  -- the same by positions
  IsSpanAt_middle : (before : List K) (y : K) (between : List K) (x : K) (after : List K) → eq x y ≡ true → holds eq x between ≡ false
      → IsSpanAt eq weight (before ++ y ∷ (between ++ x ∷ after)) (length before + suc (length between)) (1 + weight x + total eq weight (reverse between))
  IsSpanAt_middle before y between x after same none = record {
    key = x;
    requested = slice_get-append_right before (y ∷ (between ++ x ∷ after)) (suc (length between)) ∙ slice_get_middle between after x;
    before = length before;
    earlier = omega arith;
    key_before = y;
    requested_before = slice_get_middle before (between ++ x ∷ after) y;
    same = same;
    latest = latest_middle eq before y between x after none;
    between = total eq weight (reverse between);
    sizes_between = rw slice_range_between (total_by_position between);
    span = refl;
  }

  -- the same from what the positions between tell
  spans_at_positions : (before : List K) (y : K) (between : List K) (x : K) (after : List K) (rs : List K) (i k : ℕ)
      → before ++ y ∷ (between ++ x ∷ after) ≡ rs → length before + suc (length between) ≡ i → eq x y ≡ true
      → ((p : ℕ) (z : K) → length before < p → p < i → slice_get rs p ≡ Some z → eq x z ≡ false)
      → IsSumOf (IsFirstAt eq (slice_range rs (length before + 1) i)) (size_at weight (slice_range rs (length before + 1) i)) k
      → slice_get (spans eq weight rs) i ≡ Some (Some (1 + weight x + k))
  spans_at_positions before y between x after rs i k e n same =
      subst₂ (λ l j. ((p : ℕ) (z : K) → length before < p → p < j → slice_get l p ≡ Some z → eq x z ≡ false)
      → IsSumOf (IsFirstAt eq (slice_range l (length before + 1) j)) (size_at weight (slice_range l (length before + 1) j)) k
      → slice_get (spans eq weight l) j ≡ Some (Some (1 + weight x + k))) e n
      (λ latest sum.
      let none = none_between eq before y between x after latest in
      let sizes : total eq weight (reverse between) ≡ k = sum_unique (total_by_position between) (rw slice_range_between at sum) in
      spans_at_middle before y between x after same none ∙ ap (λ t. Some (Some (1 + weight x + t))) sizes)

  -- a span by positions is in the list
  spans_from_IsSpanAt : (i n : ℕ) (rs : List K) → IsSpanAt eq weight rs i n → slice_get (spans eq weight rs) i ≡ Some (Some n)
  spans_from_IsSpanAt i n rs r =
      let (before, between, after, e, at, m) = split_at_two_positions rs r.before i r.key_before r.key r.earlier r.requested_before r.requested in
      rw r.span (spans_at_positions before r.key_before between r.key after rs i r.between (sym e) (sym m) r.same
      (λ p z low high there. r.latest p z (rw at at low) high there)
      (rw at r.sizes_between))

module _ {K : Type 0} (eq : K → K → Bool) (laws : IsEquivalence eq) (weight : K → ℕ) where
  -- what stands before a request that has a span, split at the latest request of its key
  split_at_span : (front : List K) (x : K) (n : ℕ) → span eq weight x (reverse front) ≡ Some n → (before : List K) × (y : K)
      × (between : List K) × (before ++ y ∷ between ≡ front) × (eq x y ≡ true) × (holds eq x between ≡ false)
      × (1 + weight x + total eq weight (reverse between) ≡ n)
  split_at_span front x n h =
      let held : holds eq x (reverse front) ≡ true = split (holds eq x (reverse front)) (λ t. t) (λ f. cc (rw f at h)) in
      let (y, older, e, same) = split_since eq x (reverse front) held in
      let recent : List K = since eq x (reverse front) in
      let list : reverse older ++ y ∷ reverse recent ≡ front = sym (reverse_middle eq recent older y) ∙ ap reverse (sym e) ∙ reverse-reverse front in
      let size : 1 + weight x + total eq weight recent ≡ n = same_Some _ _ (rw held at h) in
      (reverse older, y, reverse recent, list, same, holds-reverse eq x recent ∙ not_since eq laws x (reverse front), rw reverse-reverse size)

  -- a span in the list is one by positions
  IsSpanAt_from_spans : (i n : ℕ) (rs : List K) → slice_get (spans eq weight rs) i ≡ Some (Some n) → IsSpanAt eq weight rs i n
  IsSpanAt_from_spans i n rs h =
      let (front, x, after, e, len, m) = spans_after_at eq weight [] rs i (Some n) h in
      let (before, y, between, f, same, none, size) = split_at_span front x n (rw append-nil at m) in
      let position : length before + suc (length between) ≡ i = sym (length-append before (y ∷ between)) ∙ ap length f ∙ len in
      let list : before ++ y ∷ (between ++ x ∷ after) ≡ rs =
      sym (append_assoc before (y ∷ between) (x ∷ after)) ∙ ap (λ l. l ++ x ∷ after) f ∙ sym e in
      let found = IsSpanAt_middle eq weight before y between x after same none in
      subst (λ k. IsSpanAt eq weight rs i k) size (subst₂ (λ l j. IsSpanAt eq weight l j (1 + weight x + total eq weight (reverse between))) list position found)

module _ {K : Type 0} (eq : K → K → Bool) where
  pub spans_by_position : IsEquivalence eq → SpansAreByPosition eq
  spans_by_position laws weight i n rs = (IsSpanAt_from_spans eq laws weight i n rs, spans_from_IsSpanAt eq weight i n rs)
