-- The sums of the first numbers of a list, and how many of them are paid for.
use Rattle.std.proofs.Common.{◌≡◌, ℕ, zero, suc, ◌+◌, ◌<◌, ◌≤◌, ◌≢◌, List, [], ◌∷◌, ◌++◌, length, get_or, set, take, drop, inl, inr, ap, ◌∙◌, subst, arith, get_or-set_other, get_or-set_same}
use Rattle.std.proofs.lemmas.Bool.{cases_lt}
use Rattle.std.proofs.lemmas.List.{get_or_default, take-append-le, take_all}
use Rattle.std.proofs.lemmas.List.Sums.{sum_by-cons, sum_by_more, sum_by-take-le}
use Rattle.std.specs.List.{sum_by}
use Rattle.std.specs.List.Sorted.{IsNonDecreasingBy}
use Rattle.clru_least.specs.FloorNumbers.{AreSums}

-- a list of numbers, the first i of which are sums already
pub record AreSumsUpTo (old now : List ℕ) (sum i : ℕ) : Type 0 where
  pub so_far : sum ≡ sum_by (λ n. n) (take i old)
  pub rest : (j : ℕ) → i ≤ j → get_or now j 0 ≡ get_or old j 0
  pub done : (j : ℕ) → j < i → get_or now j 0 ≡ sum_by (λ n. n) (take (suc j) old)

pub sum_fits : (old now : List ℕ) (sum i : ℕ) → i < length old → AreSumsUpTo old now sum i
    → sum + get_or now i 0 ≤ sum_by (λ n. n) old
sum_fits old now sum i inside at =
    omega (arith, at.so_far, at.rest i (omega arith), sum_by_more (λ n. n) old i 0 inside, sum_by-take-le (λ n. n) old (i + 1))

pub sum_step : (old now : List ℕ) (sum i : ℕ) → i < length old → length now ≡ length old → AreSumsUpTo old now sum i
    → AreSumsUpTo old (set now i (sum + get_or now i 0)) (sum + get_or now i 0) (i + 1)
sum_step old now sum i inside len at =
    let here = at.rest i (omega arith) in
    let more = sum_by_more (λ n. n) old i 0 inside in
    let v : ℕ = sum + get_or now i 0 in
    let next : suc i ≡ i + 1 = omega arith in
    record {
      so_far = omega (arith, at.so_far, here, more);
      rest = λ j far. let ne : j ≢ i = omega (arith, far) in get_or-set_other now i j v 0 ne ∙ at.rest j (omega (arith, far));
      done = λ j low. elim (cases_lt j i) [
        | inl lt ↦ let ne : j ≢ i = omega (arith, lt) in get_or-set_other now i j v 0 ne ∙ at.done j lt
        | inr ge ↦ let same : i ≡ j = omega (arith, ge, low) in
            subst (λ k. get_or (set now i v) k 0 ≡ sum_by (λ n. n) (take (suc k) old)) same
            (omega (arith, get_or-set_same now i v 0 (omega (arith, len, inside)), at.so_far, here, more, ap (λ k. sum_by (λ n. n) (take k old)) next))
      ];
    }

-- more numbers have no lesser sum
pub take_rises : {T : Type 0} (f : T → ℕ) (ts : List T) (i j : ℕ) → i ≤ j → sum_by f (take i ts) ≤ sum_by f (take j ts)
take_rises f [] zero j le = omega arith
take_rises f [] (suc i) zero le = omega (arith, le)
take_rises f [] (suc i) (suc j) le = omega arith
take_rises f (t ∷ ts) zero j le = omega arith
take_rises f (t ∷ ts) (suc i) zero le = omega (arith, le)
take_rises f (t ∷ ts) (suc i) (suc j) le =
    omega (arith, take_rises f ts i j (omega (arith, le)), sum_by-cons f t (take i ts), sum_by-cons f t (take j ts))

-- sums rise
pub sums_rise : (numbers sums : List ℕ) → AreSums numbers sums → IsNonDecreasingBy (λ v. v) sums
sums_rise numbers sums are i j d le lt =
    let inside : j < length numbers = omega (arith, lt, are.same_length) in
    let low : i < length numbers = omega (arith, le, inside) in
    let lower = get_or_default sums i d 0 (omega (arith, le, lt)) in
    let upper = get_or_default sums j d 0 lt in
    omega (arith, lower, upper, are.sums_up i low, are.sums_up j inside, take_rises (λ n. n) numbers (suc i) (suc j) (omega (arith, le)))

-- a slice written back
pub written_back : {X : Type 0} (xs ys : List X) (n : ℕ) → length xs ≡ n → take n (xs ++ drop (length xs) ys) ≡ xs
written_back xs ys n e = take-append-le n xs (drop (length xs) ys) (omega (arith, e)) ∙ take_all n xs (omega (arith, e))
