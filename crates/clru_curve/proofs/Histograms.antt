-- The numbers of requests at each distance, after one more request.
use Rattle.std.proofs.Common.{◌≡◌, ℕ, zero, suc, ◌+◌, ◌-◌, ◌<◌, ◌≤◌, Bool, true, false, List, [], ◌∷◌, ◌++◌, length, get_or, set, take, reverse, inl, inr, refl, sym, ap, ◌∙◌, arith, length-set, take_all}
use Rattle.std.proofs.lemmas.Bool.{cases_lt}
use Rattle.std.proofs.lemmas.Bool.Decides.{nat_tests}
use Rattle.std.proofs.lemmas.List.{length_push, get_or_default, get_or_past}
use Rattle.std.proofs.lemmas.List.Sums.{sum_by-cons}
use Rattle.std.specs.Prelude.{sum, nat_lt}
use Rattle.std.specs.Cmp.{IsEquivalence}
use Rattle.clru_model.specs.Requests.{holds, distinct, since, hit, misses}
use Rattle.clru_model.proofs.Cases.{split}
use Rattle.clru_model.proofs.Distinct.{since_within, distinct_since_less}
use Rattle.clru_curve.specs.Curves.{misses_at, HasMissesOf}
use Rattle.clru_curve.specs.Tree.{up_to}
use Rattle.clru_curve.specs.Passes.{IsHistogram}
use Rattle.clru_model.proofs.Distances.{misses-cons}
use Rattle.clru_curve.proofs.UpTo.{up_to-le, up_to-gt}

sum-cons : (x : ℕ) (xs : List ℕ) → sum (x ∷ xs) ≡ x + sum xs
sum-cons x xs = sum_by-cons (λ y. y) x xs

pub take-nil : (k : ℕ) → take {A = ℕ} k [] ≡ []
take-nil zero = refl
take-nil (suc k) = refl

-- one more at a position counts in the sums that pass it
pub sum-take-set : (k : ℕ) (h : List ℕ) (d : ℕ) → d < length h → sum (take k (set h d (get_or h d 0 + 1))) ≡ sum (take k h) + up_to (suc d) k
sum-take-set zero h d inside = refl
sum-take-set (suc k) [] d inside = omega (arith, inside)
sum-take-set (suc k) (x ∷ xs) zero inside = omega (arith, sum-cons (x + 1) (take k xs), sum-cons x (take k xs))
sum-take-set (suc k) (x ∷ xs) (suc d) inside =
    let ih = sum-take-set k xs d (omega (arith, inside)) in
    omega (arith, ih, sum-cons x (take k (set xs d (get_or xs d 0 + 1))), sum-cons x (take k xs))

-- a 0 at the end counts in none
pub sum-take_push : (k : ℕ) (h : List ℕ) → sum (take k (h ++ 0 ∷ [])) ≡ sum (take k h)
sum-take_push zero h = refl
sum-take_push (suc k) [] = omega (arith, sum-cons 0 (take k []), ap (λ l. sum l) (take-nil k))
sum-take_push (suc k) (x ∷ xs) =
    omega (arith, sum-take_push k xs, sum-cons x (take k (xs ++ 0 ∷ [])), sum-cons x (take k xs))

-- one more number
pub sum-take-suc : (h : List ℕ) (i : ℕ) → sum (take (suc i) h) ≡ sum (take i h) + get_or h i 0
sum-take-suc [] zero = refl
sum-take-suc [] (suc i) = refl
sum-take-suc (x ∷ xs) zero = omega (arith, sum-cons x [])
sum-take-suc (x ∷ xs) (suc i) = omega (arith, sum-take-suc xs i, sum-cons x (take (suc i) xs), sum-cons x (take i xs))

module _ {K : Type 0} (eq : K → K → Bool) where
  -- before the first request
  pub IsHistogram-none : IsHistogram eq [] []
  IsHistogram-none = record { distinct = refl; hits = λ k. omega (arith, ap (λ l. sum l) (take-nil k)) }

module _ {K : Type 0} (eq : K → K → Bool) (laws : IsEquivalence eq) (past : List K) (h : List ℕ) (x : K) (is : IsHistogram eq past h) where
  -- a key that was not requested before
  pub IsHistogram-new : holds eq x past ≡ false → IsHistogram eq (x ∷ past) (h ++ 0 ∷ [])
  IsHistogram-new absent = record {
    distinct = rw absent (omega (arith, length_push h 0, is.distinct));
    hits = λ k.
        let pushed = misses-cons eq k x past in
        let miss : hit eq k x past ≡ false = rw absent refl in
        let one : misses eq k (reverse (x ∷ past)) ≡ misses eq k (reverse past) + 1 = rw miss at pushed in
        omega (arith, one, is.hits k, sum-take_push k h);
  }

  -- a key that was requested before
  module _ (held : holds eq x past ≡ true) where
    pub distance_inside : distinct eq (since eq x past) < length h
    distance_inside =
        omega (arith, is.distinct, distinct_since_less eq laws x past past held (λ z g. since_within eq laws x z past g))

    pub IsHistogram-again : IsHistogram eq (x ∷ past) (set h (distinct eq (since eq x past)) (get_or h (distinct eq (since eq x past)) 0 + 1))
    IsHistogram-again =
        let d = distinct eq (since eq x past) in
        record {
          distinct = rw held (omega (arith, length-set h d (get_or h d 0 + 1), is.distinct));
          hits = λ k.
              let pushed = misses-cons eq k x past in
              let more = sum-take-set k h d distance_inside in
              elim (cases_lt d k) [
                | inl lt ↦
                    let low : nat_lt d k ≡ true = grind (arith, nat_tests) in
                    let here : hit eq k x past ≡ true = rw held low in
                    let same : misses eq k (reverse (x ∷ past)) ≡ misses eq k (reverse past) + 0 = rw here at pushed in
                    omega (arith, same, is.hits k, more, up_to-le (suc d) k lt)
                | inr ge ↦
                    let high : nat_lt d k ≡ false = grind (arith, nat_tests) in
                    let here : hit eq k x past ≡ false = rw held high in
                    let one : misses eq k (reverse (x ∷ past)) ≡ misses eq k (reverse past) + 1 = rw here at pushed in
                    omega (arith, one, is.hits k, more, up_to-gt (suc d) k (omega arith))
              ];
        }

    -- no number passes that of the requests
    pub distance_few : get_or h (distinct eq (since eq x past)) 0 ≤ length past
    distance_few =
        let d = distinct eq (since eq x past) in omega (arith, is.hits (suc d), sum-take-suc h d)

-- without distinct keys there are no requests
pub none_distinct : {K : Type 0} (eq : K → K → Bool) (ks : List K) → distinct eq ks ≡ 0 → length ks ≡ 0
none_distinct {K = K} eq [] none = refl
none_distinct {K = K} eq (k ∷ ks) none = split (holds eq k ks)
    (λ t. let before = none_distinct eq ks (rw t at none) in absurd (no_key ks t before))
    (λ f. let some : 1 + distinct eq ks ≡ 0 = rw f at none in omega (arith, some))
  where
    no_key : (ls : List K) → holds eq k ls ≡ true → length ls ≡ 0 → ⊥
    no_key [] held empty = cc
    no_key (l ∷ ls) held empty = omega (arith, empty)

-- past the end of a list it is all taken
take_end : (h : List ℕ) (k : ℕ) → length h ≤ k → sum (take k h) ≡ sum h
take_end h k end = ap (λ l. sum l) (take_all k h end)

-- a curve at each capacity, where its numbers are those of requests without the hits at lesser distances
pub curve_at : (h curve : List ℕ) (n : ℕ) → length curve ≡ length h → ((i : ℕ) → i < length h → get_or curve i 0 + sum (take (suc i) h) ≡ n)
    → (length h ≡ 0 → n ≡ 0) → (k : ℕ) → 0 < k → misses_at curve k + sum (take k h) ≡ n
curve_at h curve n len at none k some = elim (cases_lt (k - 1) (length curve)) [
  | inl lt ↦
      let first : suc (k - 1) ≡ k = omega arith in
      let here = at (k - 1) (omega (arith, lt, len)) in
      let same = ap (λ j. sum (take j h)) first in
      omega (arith, get_or_default curve (k - 1) (get_or curve (length curve - 1) 0) 0 lt, here, same)
  | inr end ↦
      let past_end = get_or_past curve (k - 1) (get_or curve (length curve - 1) 0) end in
      let all = take_end h k (omega (arith, end, len)) in
      elim (cases_lt 0 (length h)) [
        | inl more ↦
            let last : suc (length curve - 1) ≡ length h = omega (arith, len, more) in
            let here = at (length curve - 1) (omega (arith, len, more)) in
            let whole = take_end h (suc (length curve - 1)) (omega (arith, last)) in
            omega (arith, past_end, all, here, whole)
        | inr few ↦
            let empty : length h ≡ 0 = omega arith in
            let last = get_or_past curve (length curve - 1) 0 (omega (arith, len, empty)) in
            let nothing = take_end h 0 (omega (arith, empty)) in
            omega (arith, past_end, last, all, nothing, none empty)
      ]
]

-- the requests without those of lesser distances are misses
pub HasMissesOf-by : {K : Type 0} (eq : K → K → Bool) (past : List K) (h curve : List ℕ) → IsHistogram eq past h
    → length curve ≡ length h → ((i : ℕ) → i < length h → get_or curve i 0 + sum (take (suc i) h) ≡ length past) → HasMissesOf eq (reverse past) curve
HasMissesOf-by eq past h curve is len at k some =
    omega (arith, curve_at h curve (length past) len at (λ empty. none_distinct eq past (sym is.distinct ∙ empty)) k some, is.hits k)
