-- What sorted hits make of a curve.
use Rattle.std.proofs.Common.{◌≡◌, ℕ, zero, suc, ◌+◌, ◌-◌, ◌<◌, ◌≤◌, Bool, true, false, cond, nat_le, leb-true, List, [], ◌∷◌, length, get_or, set, take, reverse, inl, inr, refl, sym, ap, ◌∙◌, subst, arith, ◌≢◌, get_or-set_other, get_or-set_same}
use Rattle.std.proofs.lemmas.Bool.{cases_lt, le-leb}
use Rattle.std.proofs.lemmas.List.{get_or_default, reverse-reverse}
use Rattle.std.proofs.lemmas.List.Sums.{sum_by-cons, sum_by-take-le, count_by-le-length}
use Rattle.std.proofs.lemmas.List.Sorted.{sum_by-IsPermutation, IsPermutation-reverse, length_permutation}
use Rattle.std.specs.List.{count_by, sum_by}
use Rattle.std.specs.List.Sorted.{IsNonDecreasingBy}
use Rattle.clru_model.proofs.Cases.{split}
use Rattle.clru_model.specs.Requests.{distinct}
use Rattle.clru_model.specs.Sizes.{total}
use Rattle.clru_curve.specs.declared.sized.step.Step.{Step}
use Rattle.clru_curve.specs.SizedCurves.{CurveBySize, step, hits_within, size_after, greatest_of, IsFalling, IsMissed, IsCurveOfHits, IsSizedCurveOf}
use Rattle.clru_curve.specs.SizedPasses.{PassBySize, hit_size, IsSizedPass}
use Rattle.clru_curve.specs.LatestSizes.{total_from}
use Rattle.clru_curve.proofs.SizedHits.{count_by-cons}

one_at_most : (b : Bool) → cond b 1 0 ≤ 1
one_at_most true = omega arith
one_at_most false = omega arith

count_by-yes : {X : Type 0} (p : X → Bool) (x : X) (xs : List X) → p x ≡ true → count_by p (x ∷ xs) ≡ suc (count_by p xs)
count_by-yes p x xs t =
    let e : cond (p x) 1 0 + count_by p xs ≡ suc (count_by p xs) = rw t (omega arith) in count_by-cons p x xs ∙ e

count_by-no : {X : Type 0} (p : X → Bool) (x : X) (xs : List X) → p x ≡ false → count_by p (x ∷ xs) ≡ count_by p xs
count_by-no p x xs f =
    let e : cond (p x) 1 0 + count_by p xs ≡ count_by p xs = rw f (omega arith) in count_by-cons p x xs ∙ e

-- where the first ones pass, at least so many do
pub counts_from : {X : Type 0} (p : X → Bool) (xs : List X) (i : ℕ) → i ≤ length xs → ((k : ℕ) (d : X) → k < i → p (get_or xs k d) ≡ true)
    → i ≤ count_by p xs
counts_from p xs zero inside passes = omega arith
counts_from p [] (suc i) inside passes = omega (arith, inside)
counts_from p (x ∷ xs) (suc i) inside passes =
    let ih = counts_from p xs i (omega (arith, inside)) (λ k d low. passes (suc k) d (omega (arith, low))) in
    omega (arith, ih, count_by-yes p x xs (passes 0 x (omega arith)))

-- where the others do not, at most so many do
pub counts_to : {X : Type 0} (p : X → Bool) (xs : List X) (i : ℕ) → ((k : ℕ) (d : X) → i ≤ k → k < length xs → p (get_or xs k d) ≡ false)
    → count_by p xs ≤ i
counts_to p [] i fails = omega arith
counts_to p (x ∷ xs) zero fails =
    let ih = counts_to p xs zero (λ k d le lt. fails (suc k) d (omega arith) (omega (arith, lt))) in
    omega (arith, ih, count_by-no p x xs (fails 0 x (omega arith) (omega arith)))
counts_to p (x ∷ xs) (suc i) fails =
    let ih = counts_to p xs i (λ k d le lt. fails (suc k) d (omega (arith, le)) (omega (arith, lt))) in
    omega (arith, ih, count_by-cons p x xs, one_at_most (p x))

-- up to the point of a partition stand those that pass
pub point_counts : {X : Type 0} (p : X → Bool) (xs : List X) (i : ℕ) → i ≤ length xs → ((k : ℕ) (d : X) → k < i → p (get_or xs k d) ≡ true)
    → ((k : ℕ) (d : X) → i ≤ k → k < length xs → p (get_or xs k d) ≡ false) → i ≡ count_by p xs
point_counts p xs i inside passes fails = omega (arith, counts_from p xs i inside passes, counts_to p xs i fails)

module _ (c : ℕ) where
  -- steps with the same spans are as many
  hits_within-same : (hs ss : List Step) → length ss ≡ length hs
      → ((i : ℕ) → i < length hs → (get_or ss i (step 0 0)).capacity ≡ (get_or hs i (step 0 0)).capacity) → hits_within c ss ≡ hits_within c hs
  hits_within-same [] [] len same = refl
  hits_within-same [] (s ∷ ss) len same = omega (arith, len)
  hits_within-same (h ∷ hs) [] len same = omega (arith, len)
  hits_within-same (h ∷ hs) (s ∷ ss) len same =
      let ih = hits_within-same hs ss (omega (arith, len)) (λ i low. same (suc i) (omega (arith, low))) in
      let first : s.capacity ≡ h.capacity = same 0 (omega arith) in
      let test = ap (λ n. nat_le n c) first in
      split (nat_le h.capacity c)
      (λ t. count_by-yes (λ g. nat_le g.capacity c) s ss (test ∙ t) ∙ ap suc ih ∙ sym (count_by-yes (λ g. nat_le g.capacity c) h hs t))
      (λ f. count_by-no (λ g. nat_le g.capacity c) s ss (test ∙ f) ∙ ih ∙ sym (count_by-no (λ g. nat_le g.capacity c) h hs f))

  hit_size-yes : (h : Step) (hs : List Step) → nat_le h.capacity c ≡ true → hit_size c (h ∷ hs) ≡ h.missed_size + hit_size c hs
  hit_size-yes h hs t =
      let e : cond (nat_le h.capacity c) h.missed_size 0 + hit_size c hs ≡ h.missed_size + hit_size c hs = rw t refl in sum_by-cons (λ g. cond (nat_le g.capacity c) g.missed_size 0) h hs ∙ e

  hit_size-no : (h : Step) (hs : List Step) → nat_le h.capacity c ≡ false → hit_size c (h ∷ hs) ≡ hit_size c hs
  hit_size-no h hs f =
      let e : cond (nat_le h.capacity c) h.missed_size 0 + hit_size c hs ≡ hit_size c hs = rw f (omega arith) in sum_by-cons (λ g. cond (nat_le g.capacity c) g.missed_size 0) h hs ∙ e

  -- where none is within
  none_within : (hs : List Step) → ((i : ℕ) (d : Step) → i < length hs → nat_le (get_or hs i d).capacity c ≡ false) → (hits_within c hs ≡ 0) × (hit_size c hs ≡ 0)
  none_within [] none = (refl, refl)
  none_within (h ∷ hs) none =
      let ih = none_within hs (λ i d low. none (suc i) d (omega (arith, low))) in
      let out : nat_le h.capacity c ≡ false = none 0 h (omega arith) in
      (count_by-no (λ g. nat_le g.capacity c) h hs out ∙ ih.0, hit_size-no h hs out ∙ ih.1)

  -- of sorted hits the first are within
  within_first : (hs : List Step) → IsNonDecreasingBy (λ h. h.capacity) hs → hit_size c hs ≡ sum_by (λ h. h.missed_size) (take (hits_within c hs) hs)
  within_first [] rising = refl
  within_first (h ∷ hs) rising =
      split (nat_le h.capacity c)
      (λ t. let ih = within_first hs (λ i j d le lt. rising (suc i) (suc j) d (omega (arith, le)) (omega (arith, lt))) in
      hit_size-yes h hs t ∙ ap (λ n. h.missed_size + n) ih ∙ sym (sum_by-cons (λ g. g.missed_size) h (take (hits_within c hs) hs))
      ∙ ap (λ k. sum_by (λ g. g.missed_size) (take k (h ∷ hs))) (sym (count_by-yes (λ g. nat_le g.capacity c) h hs t)))
      (λ f. let none = none_within (h ∷ hs) (λ i d low. split (nat_le (get_or (h ∷ hs) i d).capacity c)
      (λ t. let up = rising 0 i d (omega arith) low in
      let bad = le-leb h.capacity c (omega (arith, up, leb-true (get_or (h ∷ hs) i d).capacity c t)) in cc (bad, f))
      (λ g. g)) in
      none.1 ∙ sym (ap (λ k. sum_by (λ g. g.missed_size) (take k (h ∷ hs))) none.0))

-- the sum of one more
sum_by-take-suc : {X : Type 0} (f : X → ℕ) (xs : List X) (i : ℕ) (d : X) → i < length xs → sum_by f (take (suc i) xs) ≡ sum_by f (take i xs) + f (get_or xs i d)
sum_by-take-suc f [] i d inside = omega (arith, inside)
sum_by-take-suc f (x ∷ xs) zero d inside = omega (arith, sum_by-cons f x [])
sum_by-take-suc f (x ∷ xs) (suc i) d inside =
    omega (arith, sum_by-take-suc f xs i d (omega (arith, inside)), sum_by-cons f x (take (suc i) xs), sum_by-cons f x (take i xs))

-- the sum of more is no less
sum_by-take-grows : {X : Type 0} (f : X → ℕ) (xs : List X) (i j : ℕ) → i ≤ j → sum_by f (take i xs) ≤ sum_by f (take j xs)
sum_by-take-grows f xs zero j le = omega arith
sum_by-take-grows f xs (suc i) zero le = omega (arith, le)
sum_by-take-grows f [] (suc i) (suc j) le = omega arith
sum_by-take-grows f (x ∷ xs) (suc i) (suc j) le =
    omega (arith, sum_by-take-grows f xs i j (omega (arith, le)), sum_by-cons f x (take i xs), sum_by-cons f x (take j xs))

-- one more step of hits, of which the first i are steps already
pub record IsMissedAt (size : ℕ) (old hits : List Step) (missed i : ℕ) : Type 0 where
  pub left : missed + sum_by (λ h. h.missed_size) (take i old) ≡ size
  pub rest : (j : ℕ) → i ≤ j → get_or hits j (step 0 0) ≡ get_or old j (step 0 0)
  pub span : (j : ℕ) → j < length old → (get_or hits j (step 0 0)).capacity ≡ (get_or old j (step 0 0)).capacity
  pub done : (j : ℕ) → j < i → (get_or hits j (step 0 0)).missed_size + sum_by (λ h. h.missed_size) (take (suc j) old) ≡ size

-- its size is left
pub missed_fits : (size : ℕ) (old hits : List Step) (missed i : ℕ) → sum_by (λ h. h.missed_size) old ≤ size → i < length old
    → IsMissedAt size old hits missed i → (get_or hits i (step 0 0)).missed_size ≤ missed
missed_fits size old hits missed i within inside at =
    let here = ap (λ h. h.missed_size) (at.rest i (omega arith)) in
    omega (arith, at.left, here, sum_by-take-suc (λ h. h.missed_size) old i (step 0 0) inside, sum_by-take-le (λ h. h.missed_size) old (suc i), within)

pub missed_step : (size : ℕ) (old hits : List Step) (missed i : ℕ) → sum_by (λ h. h.missed_size) old ≤ size → length hits ≡ length old → i < length old
    → IsMissedAt size old hits missed i
    → IsMissedAt size old (set hits i (step (get_or hits i (step 0 0)).capacity (missed - (get_or hits i (step 0 0)).missed_size))) (missed - (get_or hits i (step 0 0)).missed_size) (i + 1)
missed_step size old hits missed i within len inside at =
    let here = ap (λ h. h.missed_size) (at.rest i (omega arith)) in
    let more = sum_by-take-suc (λ h. h.missed_size) old i (step 0 0) inside in
    let few = sum_by-take-le (λ h. h.missed_size) old (suc i) in
    let next : i + 1 ≡ suc i = omega arith in
    let v : Step = step (get_or hits i (step 0 0)).capacity (missed - (get_or hits i (step 0 0)).missed_size) in
    let own = get_or-set_same hits i v (step 0 0) (omega (arith, len, inside)) in
    record {
      left = omega (arith, at.left, here, more, few, within, ap (λ k. sum_by (λ h. h.missed_size) (take k old)) next);
      rest = λ j far. let ne : j ≢ i = omega arith in get_or-set_other hits i j v (step 0 0) ne ∙ at.rest j (omega (arith, far));
      span = λ j low. elim (cases_lt j i) [
        | inl lt ↦ let ne : j ≢ i = omega arith in ap (λ h. h.capacity) (get_or-set_other hits i j v (step 0 0) ne) ∙ at.span j low
        | inr ge ↦ elim (cases_lt i j) [
          | inl gt ↦ let ne : j ≢ i = omega arith in ap (λ h. h.capacity) (get_or-set_other hits i j v (step 0 0) ne) ∙ at.span j low
          | inr le ↦ let same : i ≡ j = omega arith in
              subst (λ k. (get_or (set hits i v) k (step 0 0)).capacity ≡ (get_or old k (step 0 0)).capacity) same (ap (λ h. h.capacity) own ∙ at.span i inside)
        ]
      ];
      done = λ j low. elim (cases_lt j i) [
        | inl lt ↦ let ne : j ≢ i = omega arith in
            omega (arith, ap (λ h. h.missed_size) (get_or-set_other hits i j v (step 0 0) ne), at.done j lt)
        | inr ge ↦ let same : i ≡ j = omega arith in
            subst (λ k. (get_or (set hits i v) k (step 0 0)).missed_size + sum_by (λ h. h.missed_size) (take (suc k) old) ≡ size) same
            (omega (arith, ap (λ h. h.missed_size) own, at.left, here, more, few, within))
      ];
    }

-- what the steps leave
module _ (size : ℕ) (hs ss : List Step) (missed : IsMissed size hs ss) where
  pub steps_rise : IsNonDecreasingBy (λ h. h.capacity) hs → IsNonDecreasingBy (λ h. h.capacity) ss
  steps_rise rising i j d le lt =
      let low : j < length hs = omega (arith, lt, missed.same_length) in
      let up = rising i j (step 0 0) le low in
      omega (
        arith,
        up,
        missed.span i (omega (arith, le, low)),
        missed.span j low,
        ap (λ h. h.capacity) (get_or_default ss i d (step 0 0) (omega (arith, le, lt))),
        ap (λ h. h.capacity) (get_or_default ss j d (step 0 0) lt),
      )

  size_left : (k : ℕ) → k ≤ length hs → size_after size ss k + sum_by (λ h. h.missed_size) (take k hs) ≡ size
  size_left zero inside = omega arith
  size_left (suc k) inside = missed.missed k (omega (arith, inside))

  pub missed_falls : IsFalling size ss
  missed_falls i j le lt =
      let low : j ≤ length hs = omega (arith, lt, missed.same_length) in
      let more = sum_by-take-grows (λ h. h.missed_size) hs i j le in
      omega (arith, size_left i (omega (arith, le, low)), size_left j low, more)

  pub size_left_within : (c : ℕ) → IsNonDecreasingBy (λ h. h.capacity) hs → size_after size ss (hits_within c ss) + hit_size c hs ≡ size
  size_left_within c rising =
      let same = hits_within-same c hs ss missed.same_length missed.span in
      let few = count_by-le-length (λ g. nat_le g.capacity c) hs in
      let left = size_left (hits_within c hs) few in
      omega (arith, left, ap (size_after size ss) same, within_first c hs rising)

  pub as_many_within : (c : ℕ) → hits_within c ss ≡ hits_within c hs
  as_many_within c = hits_within-same c hs ss missed.same_length missed.span

-- what a curve of hits counts at each capacity
module _ (kept hits : List Step) (n size d g : ℕ) (curve : CurveBySize) (from : hits ≡ kept) (of : IsCurveOfHits hits n size d g curve) where
  left : IsMissed curve.size of.sorted curve.steps
  left = rw of.size_in_all of.steps

  pub counts_by : (c : ℕ) → hits_within c curve.steps ≡ hits_within c kept
  counts_by c = as_many_within curve.size of.sorted curve.steps left c
      ∙ sum_by-IsPermutation (λ h. cond (nat_le h.capacity c) 1 0) hits of.sorted of.permutation ∙ ap (hits_within c) from

  pub sizes_by : (c : ℕ) → size_after curve.size curve.steps (hits_within c curve.steps) + hit_size c kept ≡ curve.size
  sizes_by c =
      let here = size_left_within curve.size of.sorted curve.steps left c of.rising in
      let same = sum_by-IsPermutation (λ h. cond (nat_le h.capacity c) h.missed_size 0) hits of.sorted of.permutation ∙ ap (hit_size c) from in
      omega (arith, here, same)

-- the hits of a pass make the curve of its requests
pub IsSizedCurveOf-by : {K S : Type 0} (eq : K → K → Bool) (weight : K → ℕ) (past : List K) (p : PassBySize K S) (curve : CurveBySize) (hits : List Step) (n d : ℕ)
    → IsSizedPass eq weight past p → hits ≡ p.hits → n ≡ p.requests → d ≡ total_from p.sizes 0 → IsCurveOfHits hits n p.size d p.greatest curve
    → IsSizedCurveOf eq weight (reverse past) curve
IsSizedCurveOf-by eq weight past p curve hits n d is from all held of =
    record {
      misses = λ c. omega (arith, counts_by p.hits hits n p.size d p.greatest curve from of c, of.requests_in_all, all, is.requests, is.hits.misses c);
      missed_size = λ c. omega (arith, sizes_by p.hits hits n p.size d p.greatest curve from of c, of.size_in_all, is.size, is.hits.size c);
      again =
          let turned = ap (distinct eq) (reverse-reverse past) in
          let hits_all = length_permutation hits of.sorted of.permutation in
          omega (
            arith,
            of.steps.same_length,
            hits_all,
            ap (λ l. length l) from,
            is.hits.again,
            turned,
            length_permutation past (reverse past) (IsPermutation-reverse past),
          );
      requests_in_all = omega (arith, of.requests_in_all, all, is.requests, length_permutation past (reverse past) (IsPermutation-reverse past));
      size = omega (arith, of.size_in_all, is.size, sum_by-IsPermutation (λ x. 1 + weight x) past (reverse past) (IsPermutation-reverse past));
      distinct_size = of.distinct_size_in_all ∙ held ∙ is.held ∙ ap (total eq weight) (sym (reverse-reverse past));
      greatest_weight = of.greatest ∙ is.greatest ∙ ap (greatest_of weight) (sym (reverse-reverse past));
    }
