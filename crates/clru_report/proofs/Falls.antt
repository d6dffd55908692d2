-- At which capacities the misses of a curve fall: at the steps, and nowhere else.
use Rattle.std.proofs.Common.{◌≡◌, ◌≢◌, ℕ, zero, suc, ◌+◌, ◌-◌, ◌<◌, ◌≤◌, Bool, true, false, cond, ◌||◌, nat_le, nat_lt, leb-true, leb-false, List, [], ◌∷◌, ◌++◌, length, get_or, inl, inr, refl, sym, ap, ◌∙◌, arith}
use Rattle.std.specs.Prelude.{◌==◌}
use Rattle.std.specs.List.Sorted.{IsNonDecreasingBy}
use Rattle.std.proofs.lemmas.Bool.{cases_lt, le-leb, lt-leb, le-ltb, lt-ltb, ne_eqb, eq-eqb, or_left, or_right, or_from}
use Rattle.std.proofs.lemmas.List.{append-nil}
use Rattle.std.proofs.lemmas.List.Sums.{sum_by-cons, count_by-le-length}
use Rattle.clru_curve.specs.declared.sized.step.Step.{Step}
use Rattle.clru_curve.specs.SizedCurves.{CurveBySize, step, hits_within, misses_within}
use Rattle.clru_model.proofs.Cases.{split}
use Rattle.clru_report.proofs.CapacityLemmas.{passing, passing_one, passing_none}
use Rattle.clru_report.specs.Passes.{IsSettled}

abbrev one : Bool → ℕ
one b = cond b 1 0

-- one more step, and whether it is within
hits-cons : (c : ℕ) (s : Step) (ss : List Step) → hits_within c (s ∷ ss) ≡ one (nat_le s.capacity c) + hits_within c ss
hits-cons c s ss = sum_by-cons (λ t. cond (nat_le t.capacity c) 1 0) s ss

module _ (c : ℕ) where
  within_grows : (s : ℕ) → one (nat_le s c) ≤ one (nat_le s (suc c))
  within_grows s =
      split (nat_le s c)
      (λ t. rw (t, le-leb s (suc c) (omega (arith, leb-true s c t))) (omega arith))
      (λ f. rw f (omega arith))

  within_same : (s : ℕ) → s ≢ suc c → one (nat_le s (suc c)) ≡ one (nat_le s c)
  within_same s other =
      split (nat_le s c)
      (λ t. ap one (le-leb s (suc c) (omega (arith, leb-true s c t)) ∙ sym t))
      (λ f. ap one (lt-leb s (suc c) (omega (arith, leb-false s c f, other)) ∙ sym f))

  pub hits_grow : (ss : List Step) → hits_within c ss ≤ hits_within (suc c) ss
  hits_grow [] = omega arith
  hits_grow (s ∷ ss) = omega (arith, hits_grow ss, within_grows s.capacity, hits-cons c s ss, hits-cons (suc c) s ss)

  -- where no step is, as many hit as at the capacity before
  pub hits_same : (ss : List Step) → ((i : ℕ) → i < length ss → (get_or ss i (step 0 0)).capacity ≢ suc c) → hits_within (suc c) ss ≡ hits_within c ss
  hits_same [] none = refl
  hits_same (s ∷ ss) none =
      let ih = hits_same ss (λ i low. none (suc i) (omega (arith, low))) in
      omega (arith, ih, within_same s.capacity (none 0 (omega arith)), hits-cons c s ss, hits-cons (suc c) s ss)

  -- where a step is, more do
  hits_more : (ss : List Step) (i : ℕ) → i < length ss → (get_or ss i (step 0 0)).capacity ≡ suc c → hits_within c ss < hits_within (suc c) ss
  hits_more [] i low here = omega (arith, low)
  hits_more (s ∷ ss) zero low here =
      let after = ap one (le-leb s.capacity (suc c) (omega (arith, here))) in
      let before = ap one (lt-leb s.capacity c (omega (arith, here))) in
      omega (arith, after, before, hits_grow ss, hits-cons c s ss, hits-cons (suc c) s ss)
  hits_more (s ∷ ss) (suc i) low here =
      omega (arith, hits_more ss i (omega (arith, low)) here, within_grows s.capacity, hits-cons c s ss, hits-cons (suc c) s ss)

-- numbers of which none passes add none
passing_skip : (p : ℕ → Bool) (f : ℕ → ℕ) (i n : ℕ) → ((k : ℕ) → i ≤ k → k < i + n → p (f k) ≡ false) → passing p f (i + n) ≡ passing p f i
passing_skip p f i zero none = ap (passing p f) (omega arith)
passing_skip p f i (suc n) none =
    let next : i + suc n ≡ i + n + 1 = omega arith in
    ap (passing p f) next ∙ passing_none p f (i + n) (none (i + n) (omega arith) (omega arith))
    ∙ append-nil (passing p f (i + n)) ∙ passing_skip p f i n (λ k from low. none k from (omega (arith, low)))

module _ (curve : CurveBySize) where
  abbrev pub first : ℕ
  first = 1 + curve.greatest_weight

  -- the first capacity, or one with fewer misses than the one before
  abbrev pub falls : ℕ → Bool
  falls c = (c == first) || nat_lt (misses_within curve c) (misses_within curve (c - 1))

  abbrev pub from : ℕ → ℕ
  from k = first + k

  abbrev pub span : ℕ → ℕ
  span i = (get_or curve.steps i (step 0 0)).capacity

  -- what was chosen up to the capacity `last`, at or below which the first i steps are
  pub record IsChosen (last i : ℕ) (chosen : List ℕ) : Type 0 where
    pub capacities : chosen ≡ passing falls from (last + 1 - first)
    pub low : first ≤ last
    pub high : last ≤ curve.distinct_size
    pub done : (j : ℕ) → j < i → span j ≤ last

  falls-suc : (c : ℕ) → falls (suc c) ≡ ((suc c == first) || nat_lt (misses_within curve (suc c)) (misses_within curve c))
  falls-suc c =
      let back : suc c - 1 ≡ c = omega arith in
      ap (λ n. (suc c == first) || nat_lt (misses_within curve (suc c)) (misses_within curve n)) back

module _ (curve : CurveBySize) (settled : IsSettled curve) (rising : IsNonDecreasingBy (λ s. s.capacity) curve.steps)
    (few : length curve.steps ≤ curve.requests) where
  fewer : (i c : ℕ) → i < length curve.steps → span curve i ≡ suc c → misses_within curve (suc c) < misses_within curve c
  fewer i c low here =
      omega (arith, hits_more c curve.steps i low here, few, count_by-le-length (λ s. nat_le s.capacity (suc c)) curve.steps)

  falls_at : (i c : ℕ) → i < length curve.steps → span curve i ≡ suc c → falls curve (suc c) ≡ true
  falls_at i c low here =
      falls-suc curve c ∙ or_right (suc c == (first curve)) _
      (lt-ltb (misses_within curve (suc c)) (misses_within curve c) (fewer i c low here))

  stays : (c : ℕ) → (first curve) < suc c → ((i : ℕ) → i < length curve.steps → span curve i ≢ suc c) → falls curve (suc c) ≡ false
  stays c past none =
      let same : misses_within curve (suc c) ≡ misses_within curve c = ap (λ h. curve.requests - h) (hits_same c curve.steps none) in
      falls-suc curve c ∙ or_from (suc c == (first curve)) _ (ne_eqb (suc c) (first curve) (λ e. omega (arith, e, past)))
      (le-ltb (misses_within curve (suc c)) (misses_within curve c) (omega (arith, same)))

  -- each step is within the size of all keys
  pub within : (i : ℕ) → i < length curve.steps → curve.greatest_weight < curve.distinct_size → span curve i ≤ curve.distinct_size
  within i low some = elim (cases_lt curve.distinct_size (span curve i)) [
    | inl more ↦
        let c = span curve i - 1 in
        let here : span curve i ≡ suc c = omega (arith, more) in
        let drop = fewer i c low here in
        let one = settled.settled (suc c) (omega (arith, more)) in
        let two = settled.settled c (omega (arith, more)) in
        omega (arith, drop, one, two)
    | inr less ↦ less
  ]

  -- none falls between the last capacity and the next step
  gap : (last i next : ℕ) (chosen : List ℕ) → IsChosen curve last i chosen → last < next
      → ((j : ℕ) → i ≤ j → j < length curve.steps → next ≤ span curve j)
      → passing (falls curve) (from curve) (next - (first curve)) ≡ chosen
  gap last i next chosen is more later =
      let n = next - (last + 1) in
      let start : ℕ = last + 1 - (first curve) in
      let count : next - (first curve) ≡ start + n = omega (arith, is.low, more) in
      ap (passing (falls curve) (from curve)) count ∙ passing_skip (falls curve) (from curve) start n (λ k above below.
      let c = (first curve) + k - 1 in
      let here : from curve k ≡ suc c = omega (arith) in
      let none : (j : ℕ) → j < length curve.steps → span curve j ≢ suc c = λ j inside e. elim (cases_lt j i) [
        | inl early ↦ omega (arith, is.done j early, e, above, is.low)
        | inr late ↦ omega (arith, later j late inside, e, below, is.low, more)
      ] in
      ap (falls curve) here ∙ stays c (omega (arith, above, is.low)) none) ∙ sym is.capacities

  pub chosen_first : curve.greatest_weight < curve.distinct_size → IsChosen curve (first curve) 0 ((first curve) ∷ [])
  chosen_first some = record {
    capacities =
        let one : (first curve) + 1 - (first curve) ≡ 0 + 1 = omega arith in
        let here : from curve 0 ≡ (first curve) = omega arith in
        sym (ap (passing (falls curve) (from curve)) one ∙ passing_one (falls curve) (from curve) 0
        (ap (falls curve) here ∙ or_left ((first curve) == (first curve)) _ (eq-eqb (first curve) (first curve) refl))
        ∙ ap (λ n. n ∷ []) here);
    low = omega arith;
    high = omega (arith, some);
    done = λ j none. omega (arith, none);
  }

  module _ (last i : ℕ) (chosen : List ℕ) (is : IsChosen curve last i chosen) (inside : i < length curve.steps) where
    -- a further step is chosen
    pub chosen_step : last < span curve i → IsChosen curve (span curve i) (i + 1) (chosen ++ span curve i ∷ [])
    chosen_step more =
        let c = span curve i - 1 in
        let next : span curve i ≡ suc c = omega (arith, more) in
        let k = span curve i - (first curve) in
        let count : span curve i + 1 - (first curve) ≡ k + 1 = omega (arith, more, is.low) in
        let here : from curve k ≡ span curve i = omega (arith, more, is.low) in
        let later = λ (j : ℕ) (from_i : i ≤ j) (low : j < length curve.steps). rising i j (step 0 0) from_i low in
        record {
          capacities = sym (ap (passing (falls curve) (from curve)) count
              ∙ passing_one (falls curve) (from curve) k (ap (falls curve) (here ∙ next) ∙ falls_at i c inside next)
              ∙ ap (λ n. passing (falls curve) (from curve) k ++ n ∷ []) here
              ∙ ap (λ ns. ns ++ span curve i ∷ []) (gap last i (span curve i) chosen is more later));
          low = omega (arith, more, is.low);
          high = within i inside (omega (arith, is.low, is.high));
          done = λ j low. omega (arith, rising j i (step 0 0) (omega (arith, low)) inside);
        }

    -- one at the last capacity, or below the first, is not
    pub chosen_same : span curve i ≤ last → IsChosen curve last (i + 1) chosen
    chosen_same less = record {
      capacities = is.capacities;
      low = is.low;
      high = is.high;
      done = λ j low. elim (cases_lt j i) [
        | inl early ↦ is.done j early
        | inr late ↦ let same : j ≡ i = omega (arith, low, late) in omega (arith, less, ap (span curve) same)
      ];
    }

  -- after the last step there are all
  pub chosen_all : (last i : ℕ) (chosen : List ℕ) → IsChosen curve last i chosen → length curve.steps ≤ i
      → chosen ≡ passing (falls curve) (from curve) (curve.distinct_size + 1 - (first curve))
  chosen_all last i chosen is all = elim (cases_lt last curve.distinct_size) [
    | inl more ↦
        let n = curve.distinct_size - last in
        let start : ℕ = last + 1 - (first curve) in
        let count : curve.distinct_size + 1 - (first curve) ≡ start + n = omega (arith, is.low, more) in
        sym (ap (passing (falls curve) (from curve)) count ∙ passing_skip (falls curve) (from curve) start n (λ k above below.
        let c = (first curve) + k - 1 in
        let here : from curve k ≡ suc c = omega arith in
        ap (falls curve) here ∙ stays c (omega (arith, above, is.low))
        (λ j inside e. omega (arith, is.done j (omega (arith, inside, all)), e, above, is.low))) ∙ sym is.capacities)
    | inr less ↦
        let same : last ≡ curve.distinct_size = omega (arith, less, is.high) in
        is.capacities ∙ ap (λ n. passing (falls curve) (from curve) (n + 1 - (first curve))) same
  ]
