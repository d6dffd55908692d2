-- The computed numbers of distinct keys and of misses are counts of positions.
use Rattle.std.proofs.Common.{◌≡◌, ℕ, zero, suc, ◌+◌, ◌<◌, Bool, true, false, cond, not, ◌⊎◌, List, [], ◌∷◌, ◌++◌, length, reverse}
use Rattle.std.proofs.Common.{Some, inl, inr, refl, sym, ap, ◌∙◌, subst, arith, add-one, add-zero}
use Rattle.std.proofs.lemmas.List.{reverse-append, reverse-reverse}
use Rattle.std.proofs.lemmas.Option.{same_Some, slice_get_within}
use Rattle.std.specs.List.{slice_get, count_by}
use Rattle.clru_model.proofs.Cases.{split}
use Rattle.clru_model.specs.Requests.{holds, distinct}
use Rattle.clru_model.specs.Schedule.{schedule_marks, schedule_misses}
use Rattle.clru_model.proofs.Marks.{count_by-not-push}
use Rattle.clru_model.specs.ByPosition.{IsCountOf, IsFirstAt, IsScheduleMissAt}
use Rattle.clru_model.proofs.Counting.{count_none, count_same, count_next}
use Rattle.clru_model.proofs.Positions.{slice_get-append_left, slice_get_middle, LacksKey_from_holds, holds_from_LacksKey, holds-reverse}
use Rattle.clru_model.proofs.SchedulesByPosition.{schedule_misses_by_position}

module _ {X : Type 0} where
  -- what stands at a position of a list with one more element at its end
  slice_get_push : (xs : List X) (x y : X) (p : ℕ) → slice_get (xs ++ x ∷ []) p ≡ Some y
      → (slice_get xs p ≡ Some y) ⊎ ((p ≡ length xs) × (x ≡ y))
  slice_get_push [] x y zero h = inr (refl, same_Some _ _ h)
  slice_get_push [] x y (suc p) h = cc
  slice_get_push (z ∷ xs) x y zero h = inl h
  slice_get_push (z ∷ xs) x y (suc p) h =
      elim (slice_get_push xs x y p h) [
        | inl a ↦ inl a
        | inr b ↦ inr (ap suc b.0, b.1)
      ]

-- of marks, the last first
false_marks_of : (last_first : List Bool) → IsCountOf (λ i. slice_get (reverse last_first) i ≡ Some false) (count_by not (reverse last_first))
false_marks_of [] = count_none (λ i. slice_get {X = Bool} [] i ≡ Some false) (λ i at. cc)
false_marks_of (m ∷ ms) =
    let more : count_by not (reverse (m ∷ ms)) ≡ count_by not (reverse ms) + cond m 0 1 =
    ap (count_by not) (reverse-append (m ∷ []) ms) ∙ count_by-not-push (reverse ms) m in
    rw (more, reverse-append (m ∷ []) ms) (marks_next (reverse ms) m (count_by not (reverse ms)) (false_marks_of ms))
  where
    still : (bs : List Bool) (b : Bool) (i : ℕ) → slice_get bs i ≡ Some false → slice_get (bs ++ b ∷ []) i ≡ Some false
    still bs b i at = let within : i < length bs = slice_get_within bs i false at in slice_get-append_left bs (b ∷ []) i within ∙ at

    marks_next : (bs : List Bool) (b : Bool) (n : ℕ) → IsCountOf (λ i. slice_get bs i ≡ Some false) n
        → IsCountOf (λ i. slice_get (bs ++ b ∷ []) i ≡ Some false) (n + cond b 0 1)
    marks_next bs true n c = rw add-zero (count_same c (still bs true) (λ i at. elim (slice_get_push bs true false i at) [
      | inl before ↦ before
      | inr last ↦ let no : true ≡ false = last.1 in cc
    ]))
    marks_next bs false n c = rw add-one (count_next (length bs) c (λ i at. slice_get_within bs i false at) (still bs false)
        (slice_get_middle bs [] false) (λ i at. elim (slice_get_push bs false false i at) [
          | inl before ↦ inl before
          | inr last ↦ inr last.0
        ]))

-- the false marks of a list are as many as their positions
pub false_marks_by_position : (ms : List Bool) → IsCountOf (λ i. slice_get ms i ≡ Some false) (count_by not ms)
false_marks_by_position ms = subst (λ l. IsCountOf (λ i. slice_get l i ≡ Some false) (count_by not l)) (reverse-reverse ms) (false_marks_of (reverse ms))

module _ {K : Type 0} (eq : K → K → Bool) where
  -- a schedule's misses are as many as the requests that it misses
  pub schedule_misses_counted : (held : List (List K)) (rs : List K) → IsCountOf (IsScheduleMissAt eq held rs) (schedule_misses eq held rs)
  schedule_misses_counted held rs = count_same (false_marks_by_position (schedule_marks eq held rs))
      (λ i. (schedule_misses_by_position eq held rs i).0) (λ i. (schedule_misses_by_position eq held rs i).1)

module _ {K : Type 0} (eq : K → K → Bool) where
  -- a key that stands first still does with one more at the end
  pub first_still : (xs : List K) (x : K) (p : ℕ) → IsFirstAt eq xs p → IsFirstAt eq (xs ++ x ∷ []) p
  first_still xs x p f =
      let within : p < length xs = slice_get_within xs p f.key f.at in
      record {
        key = f.key;
        at = slice_get-append_left xs (x ∷ []) p within ∙ f.at;
        none_before = λ j y less at. f.none_before j y less (sym (slice_get-append_left xs (x ∷ []) j (omega arith)) ∙ at);
      }

  -- a key that stands first stood so before, or is the one at the end, which is new
  pub first_before : (xs : List K) (x : K) (p : ℕ) → IsFirstAt eq (xs ++ x ∷ []) p
      → IsFirstAt eq xs p ⊎ ((p ≡ length xs) × (holds eq x xs ≡ false))
  first_before xs x p f = elim (slice_get_push xs x f.key p f.at) [
    | inl at ↦ let within : p < length xs = slice_get_within xs p f.key at in inl (record {
      key = f.key;
      at = at;
      none_before = λ j y less at'. f.none_before j y less (slice_get-append_left xs (x ∷ []) j (omega arith) ∙ at');
    })
    | inr (e, same) ↦ inr (
      e,
      holds_from_LacksKey eq xs x (λ j y at.
          let within : j < length xs = slice_get_within xs j y at in
          rw same (f.none_before j y (omega arith) (slice_get-append_left xs (x ∷ []) j within ∙ at))),
    )
  ]

  -- a new key at the end stands first
  pub first_new : (xs : List K) (x : K) → holds eq x xs ≡ false → IsFirstAt eq (xs ++ x ∷ []) (length xs)
  first_new xs x new = record {
    key = x;
    at = slice_get_middle xs [] x;
    none_before = λ j y less at. LacksKey_from_holds eq xs x new j y (sym (slice_get-append_left xs (x ∷ []) j less) ∙ at);
  }

  pub first_within : (xs : List K) (p : ℕ) → IsFirstAt eq xs p → p < length xs
  first_within xs p f = slice_get_within xs p f.key f.at

  -- the count with one more request
  distinct_next : (xs : List K) (x : K) (n m : ℕ) → IsCountOf (IsFirstAt eq xs) n → (holds eq x xs ≡ true → m ≡ n)
      → (holds eq x xs ≡ false → m ≡ suc n) → IsCountOf (IsFirstAt eq (xs ++ x ∷ [])) m
  distinct_next xs x n m c old new = split (holds eq x xs)
      (λ t. rw (old t) (count_same c (first_still xs x) (λ p f. elim (first_before xs x p f) [
        | inl before ↦ before
        | inr last ↦ cc
      ])))
      (λ f. rw (new f) (count_next (length xs) c (first_within xs) (first_still xs x) (first_new xs x f) (λ p g. elim (first_before xs x p g) [
        | inl before ↦ inl before
        | inr last ↦ inr last.0
      ])))

  -- of requests, the latest first
  distinct_of_past : (past : List K) → IsCountOf (IsFirstAt eq (reverse past)) (distinct eq past)
  distinct_of_past [] = count_none (IsFirstAt eq []) (λ p f. let at = f.at in cc)
  distinct_of_past (x ∷ older) =
      subst (λ l. IsCountOf (IsFirstAt eq l) (distinct eq (x ∷ older))) (sym (reverse-append (x ∷ []) older))
      (distinct_next (reverse older) x (distinct eq older) (distinct eq (x ∷ older)) (distinct_of_past older)
      (λ t. let held : holds eq x older ≡ true = sym (holds-reverse eq x older) ∙ t in rw held refl)
      (λ f. let new : holds eq x older ≡ false = sym (holds-reverse eq x older) ∙ f in rw new (omega arith)))

  -- the distinct keys are those that stand somewhere first
  pub distinct_by_position : (ks : List K) → IsCountOf (IsFirstAt eq ks) (distinct eq (reverse ks))
  distinct_by_position ks =
      subst (λ l. IsCountOf (IsFirstAt eq l) (distinct eq (reverse ks))) (reverse-reverse ks) (distinct_of_past (reverse ks))
