-- The least capacity with a hit ratio of what the first lines leave: where that falls, the curve does.
use Rattle.std.proofs.Common.{◌≡◌, ℕ, zero, suc, ◌+◌, ◌-◌, ◌<◌, ◌≤◌, ◌*◌, ◌^◌, Bool, true, false, cond, nat_le, nat_lt, leb-true, ltb-false, List, [], ◌∷◌, ◌++◌, length, get_or, take, drop, drop-cons, add-one, map, inl, inr, refl, sym, ap, ◌∙◌, arith}
use Rattle.std.specs.Prelude.{◌==◌, ◌||◌}
use Rattle.std.specs.List.{filter, range_with_len}
use Rattle.std.proofs.lemmas.Bool.{le-leb, or_cases, or_left, or_parts, or_right, eq-eqb}
use Rattle.std.proofs.lemmas.List.{take-append-drop}
use Rattle.std.proofs.lemmas.List.Elements.{filter-append}
use Rattle.std.proofs.lemmas.List.Sums.{count_by-le-length}
use Rattle.clru_curve.specs.SizedCurves.{CurveBySize, hits_within, misses_within, size_after}
use Rattle.clru_model.proofs.Cases.{split}
use Rattle.clru_report.specs.Capacities.{falls_from}
use Rattle.clru_report.specs.Ratios.{has_ratio, is_enough, least_with}
use Rattle.clru_report.specs.SizedAfterPasses.{StaysBetween, missing_left}
use Rattle.clru_report.proofs.Falls.{first, hits_grow}
use Rattle.clru_report.proofs.RatioLemmas.{differ}
use Rattle.clru_report.proofs.SizedAfterLemmas.{head_falls}

-- the first of those that pass p is one that passes q, if none begins to pass p where it does not pass q
first_of_both : (p q : ℕ → Bool) (g n : ℕ) → (p g ≡ true → q g ≡ true)
    → ((c : ℕ) → g ≤ c → p (c + 1) ≡ true → q (c + 1) ≡ false → p c ≡ true)
    → take 1 (filter p (filter q (range_with_len g n))) ≡ take 1 (filter p (range_with_len g n))
first_of_both p q g zero start step = refl
first_of_both p q g (suc n) start step =
    split (p g)
    (λ t. rw (start t, t) refl)
    (λ f. let rest = first_of_both p q (g + 1) n
    (λ t. split (q (g + 1)) (λ u. u) (λ v. absurd (differ (sym (step g (omega arith) t v) ∙ f))))
    (λ c from. step c (omega (arith, from))) in
    split (q g) (λ u. rw (u, f) rest) (λ v. rw (v, f) rest))

-- numbers counted from g on
counted_from : (g a n : ℕ) → map (λ k. g + k) (range_with_len a n) ≡ range_with_len (g + a) n
counted_from g a zero = refl
counted_from g a (suc n) =
    let next : g + (a + 1) ≡ g + a + 1 = omega arith in
    ap (λ xs. (g + a) ∷ xs) (counted_from g (a + 1) n ∙ ap (λ k. range_with_len k n) next)

-- the first that passes of a list before which none does
pub found_in : (p : ℕ → Bool) (xs : List ℕ) (i : ℕ) → i < length xs → filter p (take i xs) ≡ [] → p (get_or xs i 0) ≡ true
    → take 1 (filter p xs) ≡ get_or xs i 0 ∷ []
found_in p xs i inside none here =
    let x = get_or xs i 0 in
    let behind : drop i xs ≡ x ∷ drop (i + 1) xs = rw add-one (drop-cons xs i 0 inside) in
    let all : filter p xs ≡ filter p (x ∷ drop (i + 1) xs) =
    ap (filter p) (sym (take-append-drop i xs)) ∙ filter-append p (take i xs) (drop i xs)
    ∙ ap (λ ys. ys ++ filter p (drop i xs)) none ∙ ap (filter p) behind in
    ap (take 1) all ∙ ap (λ b. take 1 (cond b (x ∷ filter p (drop (i + 1) xs)) (filter p (drop (i + 1) xs)))) here

-- what is enough is so where less misses
enough_falls : (r whole f x y : ℕ) → x ≤ y → is_enough r whole f y ≡ true → is_enough r whole f x ≡ true
enough_falls r whole f x y less is = elim (or_cases (has_ratio r whole y) _ is) [
  | inl has ↦ let most = leb-true (10 ^ 9 * y) ((10 ^ 9 - r) * whole) has in
      or_left (has_ratio r whole x) _ (le-leb (10 ^ 9 * x) ((10 ^ 9 - r) * whole) (omega (arith, most, less)))
  | inr few ↦ or_right (has_ratio r whole x) _ (le-leb x f (omega (arith, leb-true y f few, less)))
]

module _ (curve head : CurveBySize) (few : length curve.steps ≤ curve.requests) (stays : StaysBetween curve head) where
  -- where the curve does not fall, what is left does not
  stays_left : (bytes : Bool) (c : ℕ) → misses_within curve c ≤ misses_within curve (c + 1)
      → missing_left curve head bytes c ≤ missing_left curve head bytes (c + 1)
  stays_left bytes c more =
      let next : suc c ≡ c + 1 = omega arith in
      let grows = ap (λ k. hits_within k curve.steps) next in
      let same : hits_within c curve.steps ≡ hits_within (c + 1) curve.steps =
      omega (
        arith,
        more,
        few,
        grows,
        hits_grow c curve.steps,
        count_by-le-length (λ s. nat_le s.capacity (c + 1)) curve.steps,
        count_by-le-length (λ s. nat_le s.capacity c) curve.steps,
      ) in
      by same bytes
    where
      by : hits_within c curve.steps ≡ hits_within (c + 1) curve.steps → (bytes : Bool)
          → missing_left curve head bytes c ≤ missing_left curve head bytes (c + 1)
      by same false =
          let back : c + 1 - 1 ≡ c = omega arith in
          omega (arith, ap (λ h. curve.requests - h) same, head_falls head (c + 1), ap (misses_within head) back)
      by same true = omega (arith, ap (size_after curve.size curve.steps) same, stays c (c + 1) same)

  module _ (r whole : ℕ) (bytes : Bool) where
    abbrev pub enough : ℕ → Bool
    enough c = is_enough r whole (missing_left curve head bytes curve.distinct_size) (missing_left curve head bytes c)

    -- what was computed says whether a capacity is enough
    pub enough_left : (k f m : ℕ) → f ≡ missing_left curve head bytes curve.distinct_size → m ≡ missing_left curve head bytes k
        → enough k ≡ is_enough r whole f m
    enough_left k f m few so =
        ap (λ n. is_enough r whole n (missing_left curve head bytes k)) (sym few) ∙ ap (is_enough r whole f) (sym so)

    -- the first of the capacities at which the curve falls is the least of all
    pub first_fall : take 1 (filter enough (falls_from (misses_within curve) (first curve) curve.distinct_size))
        ≡ least_with r whole (missing_left curve head bytes) (first curve) curve.distinct_size
    first_fall =
        let g : ℕ = first curve in let n = curve.distinct_size + 1 - g in let m = misses_within curve in
        let q = λ (c : ℕ). (c == g) || nat_lt (m c) (m (c - 1)) in
        let numbers : map (λ k. g + k) (range_with_len 0 n) ≡ range_with_len g n =
        counted_from g 0 n ∙ ap (λ k. range_with_len k n) (omega arith) in
        ap (λ ks. take 1 (filter enough (filter q ks))) numbers
        ∙ first_of_both enough q g n
        (λ _. or_left (g == g) _ (eq-eqb g g refl))
        (λ c from is none.
        let back : c + 1 - 1 ≡ c = omega arith in
        let flat = ltb-false (m (c + 1)) (m (c + 1 - 1)) (or_parts (c + 1 == g) _ none).1 in
        enough_falls r whole (missing_left curve head bytes curve.distinct_size) (missing_left curve head bytes c)
        (missing_left curve head bytes (c + 1)) (stays_left bytes c (omega (arith, flat, ap m back))) is)
