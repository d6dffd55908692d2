-- The positions of keys, and what the requests after each measure, after one more request.
use Rattle.std.proofs.Common.{◌≡◌, ℕ, suc, ◌+◌, ◌<◌, ◌≤◌, Bool, true, false, cond, List, [], ◌∷◌, length, Some, None, is_some, inl, inr, refl, sym, ap, ◌∙◌, subst, arith}
use Rattle.std.proofs.lemmas.Bool.{cases_lt}
use Rattle.std.specs.Cmp.{IsEquivalence}
use Rattle.std.specs.Map.{lookup}
use Rattle.clru_model.specs.Requests.{holds, distinct, since}
use Rattle.clru_model.proofs.Cases.{split}
use Rattle.clru_model.proofs.Distinct.{since-cons, since_within, since_either, distinct_since_since}
use Rattle.clru_curve.specs.Tree.{up_by}
use Rattle.clru_curve.specs.Ranked.{IsRanked}
use Rattle.clru_curve.proofs.Nodes.{falls_far}
use Rattle.clru_curve.proofs.UpTo.{up_by-le, up_by-gt}

-- a key that is found is the value that is found
pub same_some : {X : Type 0} {x y : X} → Some x ≡ Some y → x ≡ y
same_some e = cc

up_by-falls : (a j n : ℕ) → up_by a (suc j) n ≤ up_by a j n
up_by-falls a j n = elim (cases_lt n (suc j)) [
  | inl gt ↦ omega (arith, up_by-gt a (suc j) n gt)
  | inr le ↦ omega (arith, up_by-le a (suc j) n le, up_by-le a j n (omega arith))
]

-- a measure of requests sums the sizes of their distinct keys, and is greater from an earlier request on
pub record IsMeasure {K : Type 0} (eq : K → K → Bool) (size : K → ℕ) (measure : List K → ℕ) : Type 0 where
  pub same : (x y : K) → eq x y ≡ true → size x ≡ size y
  pub none : measure [] ≡ 0
  pub more : (x : K) (past : List K) → measure (x ∷ past) ≡ cond (holds eq x past) (measure past) (size x + measure past)
  pub since_since : (x y : K) (past : List K) → holds eq x (since eq y past) ≡ true → measure (since eq x past) < measure (since eq y past)

pub distinct_measures : {K : Type 0} (eq : K → K → Bool) → IsEquivalence eq → IsMeasure eq (λ x. 1) (distinct eq)
distinct_measures eq laws = record {
  same = λ x y e. refl;
  none = refl;
  more = λ x past. split (holds eq x past) (λ t. rw t refl) (λ f. rw f (omega arith));
  since_since = λ x y past held. distinct_since_since eq laws x y past held;
}

module _ {K : Type 0} (eq : K → K → Bool) (size : K → ℕ) (measure : List K → ℕ) where
  absurd_none : {p : ℕ} → None ≡ Some p → ⊥
  absurd_none e = cc

  -- what is noted of no request
  pub IsRanked-none : (f : ℕ → ℕ) → ((p : ℕ) → f p ≡ 0) → IsRanked eq size measure [] [] 0 f
  IsRanked-none f none = record {
    known = λ x. refl;
    before = λ x p at. elim (absurd_none at) [ ];
    latest = λ x p at. elim (absurd_none at) [ ];
    rank = λ x p at. elim (absurd_none at) [ ];
    falls = λ p. omega (arith, none p, none (suc p));
    none = none 0;
    few = omega arith;
  }

  -- the same counts
  pub IsRanked-same : (past : List K) (positions : List (K × ℕ)) (n : ℕ) (f g : ℕ → ℕ) → ((p : ℕ) → g p ≡ f p)
      → IsRanked eq size measure past positions n f → IsRanked eq size measure past positions n g
  IsRanked-same past positions n f g same is = record {
    known = is.known;
    before = is.before;
    latest = λ x p at. omega (arith, same p, is.latest x p at, same (suc p));
    rank = λ x p at. same (suc p) ∙ is.rank x p at;
    falls = λ p. omega (arith, same p, same (suc p), is.falls p);
    none = same n ∙ is.none;
    few = is.few;
  }

module _ {K : Type 0} (eq : K → K → Bool) (laws : IsEquivalence eq) (size : K → ℕ) (measure : List K → ℕ) (sums : IsMeasure eq size measure) where
  -- what was requested since y, after one more request of another key
  measure_since-other : (x y : K) (past : List K) → eq x y ≡ false
      → measure (since eq y (x ∷ past)) ≡ cond (holds eq x (since eq y past)) (measure (since eq y past)) (size x + measure (since eq y past))
  measure_since-other x y past apart =
      let back : eq y x ≡ false = laws.symm y x ∙ apart in
      rw (since-cons eq y x past, back) (sums.more x (since eq y past))

  -- and of the same key
  measure_since-same : (x y : K) (past : List K) → eq x y ≡ true → measure (since eq y (x ∷ past)) ≡ 0
  measure_since-same x y past same =
      let back : eq y x ≡ true = laws.symm y x ∙ same in
      rw (since-cons eq y x past, back) sums.none

  module _ (past : List K) (positions positions' : List (K × ℕ)) (n : ℕ) (f f' : ℕ → ℕ) (x : K) (r : IsRanked eq size measure past positions n f)
      (moved : (y : K) → lookup (eq y) positions' ≡ cond (eq x y) (Some n) (lookup (eq y) positions)) where
    known_by : (y : K) → is_some (lookup (eq y) positions') ≡ holds eq y (x ∷ past)
    known_by y = split (eq x y)
        (λ t. let back : eq y x ≡ true = laws.symm y x ∙ t in rw (moved y, t, back) refl)
        (λ f. let back : eq y x ≡ false = laws.symm y x ∙ f in rw (moved y, f, back) (r.known y))

    -- what holds at the new position, and at the positions of other keys
    by_position : (P : K → ℕ → Type 0) → ((y : K) → eq x y ≡ true → P y n)
        → ((y : K) (q : ℕ) → eq x y ≡ false → lookup (eq y) positions ≡ Some q → P y q)
        → (y : K) (q : ℕ) → lookup (eq y) positions' ≡ Some q → P y q
    by_position P new old y q at = split (eq x y)
        (λ t. let e : Some n ≡ Some q = rw (moved y, t) at at in rw (← same_some e) (new y t))
        (λ f. let e : lookup (eq y) positions ≡ Some q = rw (moved y, f) at at in old y q f e)

    after_last : f (suc n) ≡ 0
    after_last = omega (arith, r.falls n, r.none)

    -- a key that was not requested before
    module _ (absent : holds eq x past ≡ false) (counts : (p : ℕ) → f' p ≡ f p + up_by (size x) p n) (few : length positions' ≤ suc n) where
      new_latest : (y : K) (q : ℕ) → lookup (eq y) positions' ≡ Some q → f' q ≡ size y + f' (suc q)
      new_latest = by_position (λ y q. f' q ≡ size y + f' (suc q))
          (λ y t. omega (arith, sums.same x y t, counts n, counts (suc n), r.none, after_last, up_by-le (size x) n n (omega arith), up_by-gt (size x) (suc n) n (omega arith)))
          (λ y q apart at. let low = r.before y q at in
          omega (arith, counts q, counts (suc q), r.latest y q at, up_by-le (size x) q n (omega arith), up_by-le (size x) (suc q) n (omega arith)))

      new_rank : (y : K) (q : ℕ) → lookup (eq y) positions' ≡ Some q → f' (suc q) ≡ measure (since eq y (x ∷ past))
      new_rank = by_position (λ y q. f' (suc q) ≡ measure (since eq y (x ∷ past)))
          (λ y t. omega (arith, counts (suc n), after_last, up_by-gt (size x) (suc n) n (omega arith), measure_since-same x y past t))
          (λ y q apart at. let low = r.before y q at in
          let out : holds eq x (since eq y past) ≡ false = split (holds eq x (since eq y past))
          (λ t. let here = since_within eq laws y x past t in cc) (λ f. f) in
          let more = measure_since-other x y past apart in
          let one : measure (since eq y (x ∷ past)) ≡ size x + measure (since eq y past) = rw out at more in
          omega (arith, counts (suc q), r.rank y q at, one, up_by-le (size x) (suc q) n (omega arith)))

      pub IsRanked-new : IsRanked eq size measure (x ∷ past) positions' (suc n) f'
      IsRanked-new = record {
        known = known_by;
        before = by_position (λ y q. q < suc n) (λ y t. omega arith) (λ y q apart at. omega (arith, r.before y q at));
        latest = new_latest;
        rank = new_rank;
        falls = λ j. omega (arith, counts j, counts (suc j), r.falls j, up_by-falls (size x) j n);
        none = omega (arith, counts (suc n), after_last, up_by-gt (size x) (suc n) n (omega arith));
        few = few;
      }

    -- a key that was requested before, and its position
    module _ (p : ℕ) (found : lookup (eq x) positions ≡ Some p) (counts : (q : ℕ) → f' q + up_by (size x) q p ≡ f q + up_by (size x) q n)
        (few : length positions' ≤ suc n) where
      low : p < n
      low = r.before x p found

      held : (y : K) (q : ℕ) → lookup (eq y) positions ≡ Some q → holds eq y past ≡ true
      held y q at = sym (r.known y) ∙ ap is_some at

      -- a key before it was passed by, and a key after it has one more distinct key since
      others : (y : K) (q : ℕ) → eq x y ≡ false → lookup (eq y) positions ≡ Some q
          → (f' q ≡ size y + f' (suc q)) × (f' (suc q) ≡ measure (since eq y (x ∷ past)))
      others y q apart at =
          let low_q = r.before y q at in let more = measure_since-other x y past apart in
          let here = counts q in let next = counts (suc q) in
          let latest = r.latest y q at in let rank = r.rank y q at in let rank_x = r.rank x p found in
          let all_q = up_by-le (size x) q n (omega arith) in let all_next = up_by-le (size x) (suc q) n (omega arith) in
          split (holds eq x (since eq y past))
          (λ t. let less = sums.since_since x y past t in
          let before : q < p = elim (cases_lt q p) [
            | inl lt ↦ lt
            | inr ge ↦ let far = falls_far f r.falls (suc p) (suc q) (omega arith) in omega (arith, far, less, rank, rank_x)
          ] in
          let same : measure (since eq y (x ∷ past)) ≡ measure (since eq y past) = rw t at more in
          let out = up_by-le (size x) q p (omega arith) in let out_next = up_by-le (size x) (suc q) p (omega arith) in
          (omega (arith, here, next, latest, all_q, all_next, out, out_next), omega (arith, next, same, rank, all_next, out_next)))
          (λ u. let other = since_either eq laws x y past apart (held x p found) (held y q at) u in
          let less = sums.since_since y x past other in
          let after : p < q = elim (cases_lt p q) [
            | inl lt ↦ lt
            | inr ge ↦ let far = falls_far f r.falls (suc q) (suc p) (omega arith) in omega (arith, far, less, rank, rank_x)
          ] in
          let one : measure (since eq y (x ∷ past)) ≡ size x + measure (since eq y past) = rw u at more in
          let out = up_by-gt (size x) q p after in let out_next = up_by-gt (size x) (suc q) p (omega arith) in
          (omega (arith, here, next, latest, all_q, all_next, out, out_next), omega (arith, next, one, rank, all_next, out_next)))

      again_latest : (y : K) (q : ℕ) → lookup (eq y) positions' ≡ Some q → f' q ≡ size y + f' (suc q)
      again_latest = by_position (λ y q. f' q ≡ size y + f' (suc q))
          (λ y t. omega (
            arith,
            sums.same x y t,
            counts n,
            counts (suc n),
            r.none,
            after_last,
            up_by-le (size x) n n (omega arith),
            up_by-gt (size x) (suc n) n (omega arith),
            up_by-gt (size x) n p low,
            up_by-gt (size x) (suc n) p (omega (arith, low)),
          ))
          (λ y q apart at. (others y q apart at).0)

      again_rank : (y : K) (q : ℕ) → lookup (eq y) positions' ≡ Some q → f' (suc q) ≡ measure (since eq y (x ∷ past))
      again_rank = by_position (λ y q. f' (suc q) ≡ measure (since eq y (x ∷ past)))
          (λ y t. omega (
            arith,
            counts (suc n),
            after_last,
            up_by-gt (size x) (suc n) n (omega arith),
            up_by-gt (size x) (suc n) p (omega (arith, low)),
            measure_since-same x y past t,
          ))
          (λ y q apart at. (others y q apart at).1)

      again_falls : (j : ℕ) → f' (suc j) ≤ f' j
      again_falls j = elim (cases_lt j p) [
        | inl lt ↦ omega (arith, counts j, counts (suc j), r.falls j, up_by-falls (size x) j n, up_by-le (size x) j p (omega arith), up_by-le (size x) (suc j) p (omega arith))
        | inr ge ↦ elim (cases_lt p j) [
          | inl gt ↦ omega (arith, counts j, counts (suc j), r.falls j, up_by-falls (size x) j n, up_by-gt (size x) j p gt, up_by-gt (size x) (suc j) p (omega arith))
          | inr le ↦
              let same : p ≡ j = omega arith in
              subst (λ i. f' (suc i) ≤ f' i) same
              (omega (
                arith,
                counts p,
                counts (suc p),
                r.latest x p found,
                low,
                up_by-le (size x) p n (omega (arith, low)),
                up_by-le (size x) (suc p) n (omega (arith, low)),
                up_by-le (size x) p p (omega arith),
                up_by-gt (size x) (suc p) p (omega arith),
              ))
        ]
      ]

      pub IsRanked-again : IsRanked eq size measure (x ∷ past) positions' (suc n) f'
      IsRanked-again = record {
        known = known_by;
        before = by_position (λ y q. q < suc n) (λ y t. omega arith) (λ y q apart at. omega (arith, r.before y q at));
        latest = again_latest;
        rank = again_rank;
        falls = again_falls;
        none = omega (arith, counts (suc n), after_last, up_by-gt (size x) (suc n) n (omega arith), up_by-gt (size x) (suc n) p (omega (arith, low)));
        few = few;
      }

-- after one more request of x, the n-th of all, each key has a position that is that of its latest one
pub latest_moved : {K : Type 0} (eq : K → K → Bool) → IsEquivalence eq → (past : List K) (positions moved : List (K × ℕ)) (n : ℕ) (x : K) → n ≡ length past
    → ((y : K) (q : ℕ) → lookup (eq y) positions ≡ Some q → q + 1 + length (since eq y past) ≡ length past)
    → ((y : K) → lookup (eq y) moved ≡ cond (eq x y) (Some n) (lookup (eq y) positions))
    → (y : K) (q : ℕ) → lookup (eq y) moved ≡ Some q → q + 1 + length (since eq y (x ∷ past)) ≡ length (x ∷ past)
latest_moved eq laws past positions moved n x counted latest are y q at = split (eq x y)
    (λ t. let back : eq y x ≡ true = laws.symm y x ∙ t in
    let here : Some n ≡ Some q = rw (are y, t) at at in
    let none : length (since eq y (x ∷ past)) ≡ 0 = rw (since-cons eq y x past, back) refl in
    omega (arith, same_some here, none, counted))
    (λ f. let back : eq y x ≡ false = laws.symm y x ∙ f in
    let there : lookup (eq y) positions ≡ Some q = rw (are y, f) at at in
    let more : length (since eq y (x ∷ past)) ≡ suc (length (since eq y past)) = rw (since-cons eq y x past, back) refl in
    omega (arith, more, latest y q there))
