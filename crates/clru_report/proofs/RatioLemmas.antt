-- The first of some numbers that passes, and the least capacity with a hit ratio.
use Rattle.std.proofs.Common.{◌≡◌, ℕ, zero, suc, ◌+◌, ◌-◌, ◌*◌, ◌^◌, ◌<◌, ◌≤◌, Bool, true, false, cond, leb-true, leb-false, [], ◌∷◌, take, inl, inr, refl, ap, ◌∙◌, sym, arith}
use Rattle.std.specs.List.{AllByRecursion, filter, range_with_len}
use Rattle.std.proofs.lemmas.Bool.{cases_lt, le-leb, lt-leb, or_cases, or_parts, or_right}
use Rattle.clru_model.proofs.Cases.{split}
use Rattle.clru_report.specs.Ratios.{has_ratio, is_enough, least_with}
use Rattle.clru_report.specs.RatioLaws.{IsLeastWith}

pub differ : true ≡ false → ⊥
differ e = cc

module _ (p : ℕ → Bool) where
  -- of numbers none of which passes there is none
  pub none_passes : (g n : ℕ) → ((k : ℕ) → g ≤ k → k < g + n → p k ≡ false) → filter p (range_with_len g n) ≡ []
  none_passes g zero none = refl
  none_passes g (suc n) none =
      let rest = filter p (range_with_len (g + 1) n) in
      ap (λ b. cond b (g ∷ rest) rest) (none g (omega arith) (omega arith))
      ∙ none_passes (g + 1) n (λ k low high. none k (omega (arith, low)) (omega (arith, high)))

  -- one that passes, before which none does, is the first
  pub first_passes : (g n c : ℕ) → g ≤ c → c < g + n → p c ≡ true → ((k : ℕ) → g ≤ k → k < c → p k ≡ false)
      → take 1 (filter p (range_with_len g n)) ≡ c ∷ []
  first_passes g zero c low high here before = absurd (omega (arith, low, high))
  first_passes g (suc n) c low high here before =
      let rest = filter p (range_with_len (g + 1) n) in
      let at = λ (b : Bool). take 1 (cond b (g ∷ rest) rest) in
      elim (cases_lt g c) [
        | inl more ↦ ap at (before g (omega arith) more)
            ∙ first_passes (g + 1) n c (omega (arith, more)) (omega (arith, high)) here (λ k from. before k (omega (arith, from)))
        | inr less ↦ let same : g ≡ c = omega (arith, low, less) in ap at (ap p same ∙ here) ∙ ap (λ k. k ∷ []) same
      ]

  -- where one passes there is a first
  pub first_there : (g n b : ℕ) → g ≤ b → b < g + n → p b ≡ true
      → (c : ℕ) × (take 1 (filter p (range_with_len g n)) ≡ c ∷ []) × (g ≤ c) × (p c ≡ true) × ((k : ℕ) → g ≤ k → k < c → p k ≡ false)
  first_there g zero b low high here = absurd (omega (arith, low, high))
  first_there g (suc n) b low high here =
      let rest = filter p (range_with_len (g + 1) n) in
      let at = λ (x : Bool). take 1 (cond x (g ∷ rest) rest) in
      split (p g)
      (λ t. (g, ap at t, omega arith, t, λ k from below. absurd (omega (arith, from, below))))
      (λ f. elim (cases_lt g b) [
        | inl more ↦
            let later = first_there (g + 1) n b (omega (arith, more)) (omega (arith, high)) here in (
              later.0,
              ap at f ∙ later.1,
              omega (arith, later.2),
              later.3,
              λ k from below. elim (cases_lt g k) [
                | inl beyond ↦ later.4 k (omega (arith, beyond)) below
                | inr now ↦ let same : k ≡ g = omega (arith, from, now) in ap p same ∙ f
              ],
            )
        | inr less ↦ let same : b ≡ g = omega (arith, low, less) in absurd (differ (sym here ∙ ap p same ∙ f))
      ])

  -- all that pass are numbers of these
  passes_from : (g n b : ℕ) → b ≤ g → AllByRecursion (λ c. b ≤ c) (take 1 (filter p (range_with_len g n)))
  passes_from g zero b low = tt
  passes_from g (suc n) b low = split (p g) (λ t. rw t (low, tt)) (λ f. rw f (passes_from (g + 1) n b (omega (arith, low))))

-- tests that are the same on some numbers pass the same of them
passes_alike : (p q : ℕ → Bool) (g n : ℕ) → ((k : ℕ) → g ≤ k → k < g + n → p k ≡ q k)
    → filter p (range_with_len g n) ≡ filter q (range_with_len g n)
passes_alike p q g zero same = refl
passes_alike p q g (suc n) same =
    let rest = filter p (range_with_len (g + 1) n) in
    ap (λ b. cond b (g ∷ rest) rest) (same g (omega arith) (omega arith))
    ∙ ap (λ xs. cond (q g) (g ∷ xs) xs) (passes_alike p q (g + 1) n (λ k low high. same k (omega (arith, low)) (omega (arith, high))))

module _ (r whole : ℕ) where
  -- it is none below the first
  pub least_from : (m : ℕ → ℕ) (g n : ℕ) → AllByRecursion (λ c. g ≤ c) (least_with r whole m g n)
  least_from m g n = passes_from (λ c. is_enough r whole (m n) (m c)) g (n + 1 - g) g (omega arith)

  -- curves that are the same from the first capacity on have the same
  pub least_alike : (m m' : ℕ → ℕ) (g n : ℕ) → ((k : ℕ) → g ≤ k → m k ≡ m' k) → least_with r whole m g n ≡ least_with r whole m' g n
  least_alike m m' g n same =
      let p = λ (c : ℕ). is_enough r whole (m n) (m c) in let q = λ (c : ℕ). is_enough r whole (m' n) (m' c) in
      elim (cases_lt n g) [
        | inl less ↦ let none : n + 1 - g ≡ 0 = omega (arith, less) in
            ap (λ k. take 1 (filter p (range_with_len g k))) none ∙ sym (ap (λ k. take 1 (filter q (range_with_len g k))) none)
        | inr more ↦ ap (take 1) (passes_alike p q g (n + 1 - g)
            (λ k low high. ap (λ x. is_enough r whole x (m k)) (same n more) ∙ ap (is_enough r whole (m' n)) (same k low)))
      ]

-- where so many do not leave the ratio, more do not
ratio_falls : (r whole x y : ℕ) → x ≤ y → has_ratio r whole x ≡ false → has_ratio r whole y ≡ false
ratio_falls r whole x y more none =
    let low = leb-false (10 ^ 9 * x) ((10 ^ 9 - r) * whole) none in
    lt-leb (10 ^ 9 * y) ((10 ^ 9 - r) * whole) (omega (arith, low, more))

-- of a curve that falls, and from n on no more, there is one least capacity with the ratio
pub least_is : (r whole : ℕ) (m : ℕ → ℕ) (g n : ℕ) → g ≤ n → ((k l : ℕ) → k ≤ l → m l ≤ m k) → ((k : ℕ) → n ≤ k → m k ≡ m n)
    → (c : ℕ) × (least_with r whole m g n ≡ c ∷ []) × IsLeastWith r whole m g c
least_is r whole m g n some falls settled =
    let found = first_there (λ c. is_enough r whole (m n) (m c)) g (n + 1 - g) n some (omega (arith, some))
    (or_right (has_ratio r whole (m n)) _ (le-leb (m n) (m n) (omega arith))) in
    let c : ℕ = found.0 in
    let fewest : (k : ℕ) → m n ≤ m k = λ k. elim (cases_lt n k) [
      | inl beyond ↦ omega (arith, settled k (omega (arith, beyond)))
      | inr within ↦ falls k n within
    ] in
    let last : has_ratio r whole (m c) ≡ false → m c ≤ m n = λ none. elim (or_cases (has_ratio r whole (m c)) _ found.3) [
      | inl has ↦ absurd (differ (sym has ∙ none))
      | inr few ↦ leb-true (m c) (m n) few
    ] in (
      c,
      found.1,
      record {
        low = found.2;
        below = λ k from below. (or_parts (has_ratio r whole (m k)) _ (found.4 k from below)).0;
        none = λ none k from. ratio_falls r whole (m c) (m k) (omega (arith, last none, fewest k)) none;
        fewest = λ none k from. omega (arith, last none, fewest k);
        first = λ none k from below. omega (
          arith,
          last none,
          leb-false (m k) (m n) (or_parts (has_ratio r whole (m k)) _ (found.4 k from below)).1,
        );
      },
    )
