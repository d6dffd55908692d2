-- The least capacity by size with a hit ratio is the first one, or that of a step.
use Rattle.std.proofs.Common.{◌≡◌, ℕ, ◌+◌, ◌-◌, ◌<◌, ◌≤◌, Bool, true, false, List, [], ◌∷◌, length, inl, inr, sym, ap, ◌∙◌, arith}
use Rattle.std.specs.List.Sorted.{IsNonDecreasingBy}
use Rattle.std.proofs.lemmas.Bool.{cases_lt, le-leb, or_right}
use Rattle.clru_curve.specs.SizedCurves.{CurveBySize, step}
use Rattle.clru_curve.specs.declared.sized.step.Step.{Step}
use Rattle.clru_report.specs.Passes.{IsSettled}
use Rattle.clru_report.specs.Ratios.{has_ratio, is_enough, least_with}
use Rattle.clru_report.specs.Scans.{missing_after, missing_within}
use Rattle.clru_report.proofs.Falls.{first, span, within}
use Rattle.clru_report.proofs.RatioLemmas.{first_passes}
use Rattle.clru_report.proofs.SizedPieces.{hits_are}

module _ (r whole : ℕ) (bytes : Bool) (curve : CurveBySize) where
  abbrev pub fewest : ℕ
  fewest = missing_after bytes curve (length curve.steps)

  abbrev pub enough : ℕ → Bool
  enough c = is_enough r whole (missing_within bytes curve curve.distinct_size) (missing_within bytes curve c)

  -- no capacity before `last` is enough, and the first i steps are no further
  pub record IsPassed (last i : ℕ) : Type 0 where
    pub low : first curve ≤ last
    pub high : last ≤ curve.distinct_size
    pub done : (j : ℕ) → j < i → span curve j ≤ last
    pub before : (k : ℕ) → first curve ≤ k → k < last → enough k ≡ false

  -- where the first i steps are no further, and no other, so much misses
  missing_are : (i y : ℕ) → i ≤ length curve.steps → ((j : ℕ) → j < i → span curve j ≤ y)
      → ((j : ℕ) → i ≤ j → j < length curve.steps → y < span curve j) → missing_within bytes curve y ≡ missing_after bytes curve i
  missing_are i y inside early late = sym (ap (missing_after bytes curve) (hits_are curve i y inside early late))

  -- a step that is no further
  pub passed_same : (last i : ℕ) → IsPassed last i → span curve i ≤ last → IsPassed last (i + 1)
  passed_same last i is less = record {
    low = is.low;
    high = is.high;
    done = λ j low. elim (cases_lt j i) [
      | inl early ↦ is.done j early
      | inr late ↦ let same : j ≡ i = omega (arith, low, late) in omega (arith, less, ap (span curve) same)
    ];
    before = is.before;
  }

  -- what was computed of the steps says whether so much is enough
  pub enough_shown : (i : ℕ) (steps : List Step) (f m : ℕ) → steps ≡ curve.steps → f ≡ missing_after bytes curve (length steps)
      → m ≡ missing_after bytes curve i → is_enough r whole fewest (missing_after bytes curve i) ≡ is_enough r whole f m
  enough_shown i steps f m shown few so =
      ap (λ ss. is_enough r whole (missing_after bytes curve (length ss)) (missing_after bytes curve i)) (sym shown)
      ∙ ap (λ n. is_enough r whole n (missing_after bytes curve i)) (sym few) ∙ ap (is_enough r whole f) (sym so)

  module _ (settled : IsSettled curve) (rising : IsNonDecreasingBy (λ s. s.capacity) curve.steps)
      (few : length curve.steps ≤ curve.requests) (some : curve.greatest_weight < curve.distinct_size) where
    fewest_is : missing_within bytes curve curve.distinct_size ≡ fewest
    fewest_is =
        missing_are (length curve.steps) curve.distinct_size (omega arith) (λ j low. within curve settled rising few j low some)
        (λ j late low. absurd (omega (arith, late, low)))

    -- what is enough there is enough at the capacity
    enough_is : (k m : ℕ) → missing_within bytes curve k ≡ m → enough k ≡ is_enough r whole fewest m
    enough_is k m is = ap (λ f. is_enough r whole f (missing_within bytes curve k)) fewest_is ∙ ap (is_enough r whole fewest) is

    found : (last i : ℕ) → IsPassed last i → enough last ≡ true
        → least_with r whole (missing_within bytes curve) (first curve) curve.distinct_size ≡ last ∷ []
    found last i is here =
        first_passes enough (first curve) (curve.distinct_size + 1 - first curve) last is.low (omega (arith, is.high, is.low)) here is.before

    module _ (last i : ℕ) (is : IsPassed last i) where
      -- after the last step nothing more hits
      pub found_last : length curve.steps ≤ i
          → least_with r whole (missing_within bytes curve) (first curve) curve.distinct_size ≡ last ∷ []
      found_last all =
          let same = missing_are (length curve.steps) last (omega arith) (λ j low. is.done j (omega (arith, low, all)))
          (λ j late low. absurd (omega (arith, late, low))) in
          found last i is (enough_is last fewest same ∙ or_right (has_ratio r whole fewest) _ (le-leb fewest fewest (omega arith)))

      module _ (inside : i < length curve.steps) where
        module _ (more : last < span curve i) where
          stays : (k : ℕ) → last ≤ k → k < span curve i → missing_within bytes curve k ≡ missing_after bytes curve i
          stays k from below =
              missing_are i k (omega (arith, inside)) (λ j low. omega (arith, is.done j low, from))
              (λ j late low. omega (arith, rising i j (step 0 0) late low, below))

          -- before a further step it is the last one
          pub found_before : is_enough r whole fewest (missing_after bytes curve i) ≡ true
              → least_with r whole (missing_within bytes curve) (first curve) curve.distinct_size ≡ last ∷ []
          found_before here = found last i is (enough_is last (missing_after bytes curve i) (stays last (omega arith) more) ∙ here)

          -- or none up to that step
          pub passed_step : is_enough r whole fewest (missing_after bytes curve i) ≡ false → IsPassed (span curve i) (i + 1)
          passed_step none = record {
            low = omega (arith, is.low, more);
            high = within curve settled rising few i inside some;
            done = λ j low. omega (arith, rising j i (step 0 0) (omega (arith, low)) inside);
            before = λ k from below. elim (cases_lt k last) [
              | inl early ↦ is.before k from early
              | inr late ↦ enough_is k (missing_after bytes curve i) (stays k late below) ∙ none
            ];
          }
