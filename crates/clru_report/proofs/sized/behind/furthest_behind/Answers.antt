use Rattle.std.proofs.Common.{◌≡◌, ◌<◌, ◌≤◌, ℕ, List, length, get_or, inl, inr, refl, sym, ap, subst, ◌∙◌, arith}
use Rattle.std.proofs.lemmas.Bool.{cases_lt}
use Rattle.std.specs.List.Sorted.{IsNonDecreasingBy}
use Rattle.clru_curve.specs.SizedCurves.{step}
use Rattle.clru_curve.specs.declared.sized.step.Step.{Step}
use Rattle.clru_report.specs.Faithful.{off_at}
use Rattle.clru_report.specs.Scans.{IsGreatestOf}
use Rattle.clru_report.specs.SizedAfterPasses.{missed_left}
use Rattle.clru_report.proofs.Falls.{span}
use Rattle.clru_report.proofs.SizedAfterLemmas.{left_stays}
use Rattle.clru_report.proofs.sized.behind.furthest_behind.Goals as goal
use Rattle.clru_report.proofs.sized.behind.furthest_behind.Goals.{then-next-last, else-next-last}

pub loop-index-preserved : goal.loop-index-preserved
loop-index-preserved g c =
    let curve = c.args.curve.now in let head = c.args.head.now in let a = c.args.a in let b = c.args.b in
    let m = missed_left curve head in let f = off_at m a b in
    let i = c.loop-index.index in let last = c.loop-index.last in let own = span curve i in let next = c.if-next-last in
    let steps = c.as_slice-steps.ensures.steps in
    let rising = subst (λ ss. IsNonDecreasingBy (λ s. s.capacity) ss) steps c.as_slice-steps.ensures.rising in
    let within : i < length c.as_slice-steps.result.now = omega (arith, c.loop-index-test.true, c.steps_up_to-to.ensures.bound) in
    let inside = subst (λ ss. i < length ss) steps within in
    let at = ap (λ (ss : List Step). (get_or ss i (step 0 0)).capacity) steps in
    let low = c.steps_up_to-to.ensures.point.0 i (step 0 0) (omega arith) c.loop-index-test.true in
    let below : own < b = omega (arith, low, at, c.if-b-a.false) in
    let before = c.loop-index.invariant in
    elim c.if-next-last.branch [
      | then-next-last w ↦
          let found = w.further_on-found.result in
          let more : last < own = omega (arith, w.if-next-last.true, at) in
          let stays = λ (y : ℕ) (from : last ≤ y) (low : y < (get_or c.as_slice-steps.result.now i (step 0 0)).capacity).
          left_stays curve head c.requires i last y (omega (arith, inside)) from (λ j early. before.3 j early)
          (λ j late in_steps. omega (arith, rising i j (step 0 0) late in_steps, low, at)) ∙ sym w.missed_behind-misses.ensures in
          let is = w.further_on-found.ensures m f a b c.point_behind-start.ensures c.point_behind-end.ensures
          before.1 (omega (arith, below, at)) stays (λ y from low. refl) before.0 in
          let here = w.last-is ∙ at in (
            subst (λ n. IsGreatestOf f a b n next.best next.most) (sym w.last-is)
                (subst (λ n. IsGreatestOf f a b _ n next.most) (sym w.best-is)
                (subst (λ n. IsGreatestOf f a b _ found.0 n) (sym w.most-is) is)),
            omega (arith, here, more, before.1),
            omega (arith, here, below),
            λ j low. omega (arith, rising j i (step 0 0) (omega (arith, low)) inside, here),
          )
      | else-next-last w ↦
          let less : own ≤ last = omega (arith, w.if-next-last.false, at) in (
            subst (λ n. IsGreatestOf f a b n next.best next.most) (sym w.last-is)
                (subst (λ n. IsGreatestOf f a b last n next.most) (sym w.best-is)
                (subst (λ n. IsGreatestOf f a b last c.loop-index.best n) (sym w.most-is) before.0)),
            omega (arith, w.last-is, before.1),
            omega (arith, w.last-is, before.2),
            λ j low. elim (cases_lt j i) [
              | inl early ↦ omega (arith, before.3 j early, w.last-is)
              | inr late ↦ let same : j ≡ i = omega (arith, low, late) in omega (arith, ap (span curve) same, less, w.last-is)
            ],
          )
    ]

pub returns-clause-found : goal.returns-clause-found
returns-clause-found g c =
    let curve = c.args.curve.now in let head = c.args.head.now in let a = c.args.a in let b = c.args.b in let before = c.loop-index.invariant in
    let m = missed_left curve head in
    let steps = c.as_slice-steps.ensures.steps in let to = c.steps_up_to-to.result in
    let bound : to ≤ length curve.steps = subst (λ ss. to ≤ length ss) steps c.steps_up_to-to.ensures.bound in
    let stays = λ (y : ℕ) (from : c.loop-index.last ≤ y) (low : y < b).
    left_stays curve head c.requires to c.loop-index.last y bound from (λ j early. before.3 j (omega (arith, early, c.loop-index-test.false)))
    (λ j late in_steps.
    let high = c.steps_up_to-to.ensures.point.1 j (step 0 0) late (subst (λ ss. j < length ss) (sym steps) in_steps) in
    omega (arith, high, ap (λ (ss : List Step). (get_or ss j (step 0 0)).capacity) steps, low)) ∙ sym c.missed_behind-misses-2.ensures in
    let is = c.further_on-found-2.ensures m (off_at m a b) a b c.point_behind-start.ensures c.point_behind-end.ensures
    before.1 (omega arith) stays (λ y from low. refl) before.0 in
    c.if_far.ensures.found m is

pub returns-clause-none : goal.returns-clause-none
returns-clause-none g c =
    let curve = c.args.curve.now in let head = c.args.head.now in let a = c.args.a in let b = c.args.b in let before = c.loop-index.invariant in
    let m = missed_left curve head in
    let steps = c.as_slice-steps.ensures.steps in let to = c.steps_up_to-to.result in
    let bound : to ≤ length curve.steps = subst (λ ss. to ≤ length ss) steps c.steps_up_to-to.ensures.bound in
    let stays = λ (y : ℕ) (from : c.loop-index.last ≤ y) (low : y < b).
    left_stays curve head c.requires to c.loop-index.last y bound from (λ j early. before.3 j (omega (arith, early, c.loop-index-test.false)))
    (λ j late in_steps.
    let high = c.steps_up_to-to.ensures.point.1 j (step 0 0) late (subst (λ ss. j < length ss) (sym steps) in_steps) in
    omega (arith, high, ap (λ (ss : List Step). (get_or ss j (step 0 0)).capacity) steps, low)) ∙ sym c.missed_behind-misses-2.ensures in
    let is = c.further_on-found-2.ensures m (off_at m a b) a b c.point_behind-start.ensures c.point_behind-end.ensures
    before.1 (omega arith) stays (λ y from low. refl) before.0 in
    c.if_far.ensures.none m is
