-- The sizes and the volumes of the first steps of a list, summed up, and how many of them are paid for.
use Rattle.std.proofs.Common.{◌≡◌, ℕ, zero, suc, ◌+◌, ◌-◌, ◌*◌, ◌/◌, ◌<◌, ◌≤◌, ◌≢◌, nat_le, leb-true, false, List, length, get_or, set, take, inl, inr, refl, sym, ap, ◌∙◌, subst, arith, get_or-set_other, get_or-set_same}
use Rattle.std.proofs.lemmas.Bool.{cases_lt, leb-false}
use Rattle.std.proofs.lemmas.List.{get_or_default}
use Rattle.std.proofs.lemmas.List.Elements.{All-get_or}
use Rattle.std.proofs.lemmas.List.Sums.{sum_by_more, sum_by-take-le, prefix_len_passes, prefix_len_stops}
use Rattle.std.proofs.lemmas.Nat.{div_below}
use Rattle.std.specs.List.{prefix_len, sum_by}
use Rattle.std.specs.List.Sorted.{IsNonDecreasingBy}
use Rattle.clru_least.proofs.Sums.{take_rises}
use Rattle.clru_least.specs.declared.size_floor.FloorStep.{FloorStep}
use Rattle.clru_least.specs.FloorNumbers.{floor_step, own_volume, step_before, AreSteps, AreSound}

abbrev none : FloorStep
none = floor_step 0 0 0

-- a list of steps, the first i of which are summed up already
pub record AreStepsUpTo (old now : List FloorStep) (size volume i : ℕ) : Type 0 where
  pub sizes : size ≡ sum_by (λ s. s.size) (take i old)
  pub volumes : volume ≡ sum_by own_volume (take i old)
  pub rest : (j : ℕ) → i ≤ j → get_or now j none ≡ get_or old j none
  pub done : (j : ℕ) → j < i → get_or now j none
      ≡ floor_step (get_or old j none).gap (sum_by (λ s. s.size) (take (suc j) old)) (sum_by own_volume (take (suc j) old))

module _ (old now : List FloorStep) (size volume i : ℕ) (inside : i < length old) (at : AreStepsUpTo old now size volume i) where
  pub size_fits : size + (get_or now i none).size ≤ sum_by (λ s. s.size) old
  size_fits =
      omega (arith, at.sizes, ap (λ s. s.size) (at.rest i (omega arith)), sum_by_more (λ s. s.size) old i none inside, sum_by-take-le (λ s. s.size) old (i + 1))

  pub volume_fits : volume + (get_or now i none).gap * (get_or now i none).size ≤ sum_by own_volume old
  volume_fits =
      omega (arith, at.volumes, ap own_volume (at.rest i (omega arith)), sum_by_more own_volume old i none inside, sum_by-take-le own_volume old (i + 1))

  pub step_more : length now ≡ length old → (v : FloorStep) → v ≡ floor_step (get_or now i none).gap (size + (get_or now i none).size)
      (volume + (get_or now i none).gap * (get_or now i none).size)
      → AreStepsUpTo old (set now i v) (size + (get_or now i none).size) (volume + (get_or now i none).gap * (get_or now i none).size) (i + 1)
  step_more len v is =
      let here = at.rest i (omega arith) in
      let s = sum_by_more (λ s. s.size) old i none inside in
      let w = sum_by_more own_volume old i none inside in
      let next : suc i ≡ i + 1 = omega arith in
      let size_is : size + (get_or now i none).size ≡ sum_by (λ s. s.size) (take (suc i) old) =
      omega (arith, at.sizes, s, ap (λ s. s.size) here, ap (λ k. sum_by (λ s. s.size) (take k old)) next) in
      let volume_is : volume + (get_or now i none).gap * (get_or now i none).size ≡ sum_by own_volume (take (suc i) old) =
      omega (arith, at.volumes, w, ap own_volume here, ap (λ k. sum_by own_volume (take k old)) next) in
      let gap_is = ap (λ s. s.gap) here in
      let whole : v ≡ floor_step (get_or old i none).gap (sum_by (λ s. s.size) (take (suc i) old)) (sum_by own_volume (take (suc i) old)) = cc in
      record {
        sizes = omega (arith, size_is, ap (λ k. sum_by (λ s. s.size) (take k old)) next);
        volumes = omega (arith, volume_is, ap (λ k. sum_by own_volume (take k old)) next);
        rest = λ j far. let ne : j ≢ i = omega (arith, far) in get_or-set_other now i j v none ne ∙ at.rest j (omega (arith, far));
        done = λ j low. elim (cases_lt j i) [
          | inl lt ↦ let ne : j ≢ i = omega (arith, lt) in get_or-set_other now i j v none ne ∙ at.done j lt
          | inr ge ↦ let same : i ≡ j = omega (arith, ge, low) in
              subst (λ k. get_or (set now i v) k none
              ≡ floor_step (get_or old k none).gap (sum_by (λ s. s.size) (take (suc k) old)) (sum_by own_volume (take (suc k) old))) same
              (get_or-set_same now i v none (omega (arith, len, inside)) ∙ whole)
        ];
      }

-- volumes rise
pub steps_rise : (own steps : List FloorStep) → AreSteps own steps → IsNonDecreasingBy (λ s. s.volume) steps
steps_rise own steps are i j d le lt =
    let inside : j < length own = omega (arith, lt, are.same_length) in
    let low : i < length own = omega (arith, le, inside) in
    let lower = ap (λ s. s.volume) (get_or_default steps i d none (omega (arith, le, lt)) ∙ are.at i low) in
    let upper = ap (λ s. s.volume) (get_or_default steps j d none lt ∙ are.at j inside) in
    omega (arith, lower, upper, take_rises own_volume own (suc i) (suc j) (omega (arith, le)))

-- the steps that are paid for, and the next that is not
module _ (b : ℕ) (own steps : List FloorStep) (are : AreSteps own steps) where
  pub size_before : (k : ℕ) → k ≤ length steps → (step_before steps k).size ≡ sum_by (λ s. s.size) (take k own)
  size_before zero few = refl
  size_before (suc k) few = ap (λ s. s.size) (are.at k (omega (arith, few, are.same_length)))

  pub volume_before : (k : ℕ) → k ≤ length steps → (step_before steps k).volume ≡ sum_by own_volume (take k own)
  volume_before zero few = refl
  volume_before (suc k) few = ap (λ s. s.volume) (are.at k (omega (arith, few, are.same_length)))

  pub paid_before : (k : ℕ) → k ≡ prefix_len (λ s. nat_le s.volume b) steps → (step_before steps k).volume ≤ b
  paid_before zero is = omega arith
  paid_before (suc k) is = leb-true (get_or steps k none).volume b (prefix_len_passes (λ s. nat_le s.volume b) steps k none (omega (arith, is)))

  pub stopped_next : (k : ℕ) → k ≡ prefix_len (λ s. nat_le s.volume b) steps → k < length steps
      → b < sum_by own_volume (take k own) + (get_or own k none).gap * (get_or own k none).size
  stopped_next k is inside =
      let low : k < length own = omega (arith, inside, are.same_length) in
      let fails = leb-false (get_or steps k none).volume b
      (subst (λ j. nat_le (get_or steps j none).volume b ≡ false) (sym is) (prefix_len_stops (λ s. nat_le s.volume b) steps none (omega (arith, is, inside)))) in
      let next : suc k ≡ k + 1 = omega arith in
      omega (arith, fails, ap (λ s. s.volume) (are.at k low), sum_by_more own_volume own k none low, ap (λ j. sum_by own_volume (take j own)) next)

  -- the part of the next is less than its size
  pub part_within : (k : ℕ) → k ≡ prefix_len (λ s. nat_le s.volume b) steps → k < length steps → 1 ≤ (get_or own k none).gap
      → (b - (step_before steps k).volume) / (get_or steps k none).gap < (get_or own k none).size
  part_within k is inside some =
      let low : k < length own = omega (arith, inside, are.same_length) in
      let same = ap (λ s. s.gap) (are.at k low) in
      let turned : (get_or own k none).size * (get_or own k none).gap ≡ (get_or own k none).gap * (get_or own k none).size = omega arith in
      subst (λ g. (b - (step_before steps k).volume) / g < (get_or own k none).size) (sym same)
      (div_below (b - (step_before steps k).volume) (get_or own k none).gap (get_or own k none).size some
      (omega (arith, stopped_next k is inside, volume_before k (omega (arith, inside)), paid_before k is, turned)))

-- what is paid for is no more than all sizes
pub hit_within : (b size : ℕ) (steps : List FloorStep) (sound : AreSound steps size) (k : ℕ) (before : FloorStep) → before ≡ step_before steps k
    → k ≡ prefix_len (λ s. nat_le s.volume b) steps → k < length steps
    → before.size + (b - before.volume) / (get_or steps k none).gap ≤ size
hit_within b size steps sound k before e is inside =
    let low : k < length sound.own = omega (arith, inside, sound.summed.same_length) in
    let some = All-get_or (λ s. 1 ≤ s.gap) sound.own k none low sound.gaps in
    subst (λ s. s.size + (b - s.volume) / (get_or steps k none).gap ≤ size) (sym e)
    (omega (
      arith,
      part_within b sound.own steps sound.summed k is inside some,
      size_before b sound.own steps sound.summed k (omega (arith, inside)),
      sum_by_more (λ s. s.size) sound.own k none low,
      sum_by-take-le (λ s. s.size) sound.own (k + 1),
      sound.sizes,
    ))

pub first_within : (size : ℕ) (steps : List FloorStep) (sound : AreSound steps size) (k : ℕ) (before : FloorStep) → before ≡ step_before steps k
    → k ≤ length steps → before.size ≤ size
first_within size steps sound k before e few =
    omega (arith, ap (λ s. s.size) e, size_before 0 sound.own steps sound.summed k few, sum_by-take-le (λ s. s.size) sound.own k, sound.sizes)
