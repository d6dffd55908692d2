use Rattle.std.proofs.Common.{◌≡◌, ◌-◌, ◌<◌, ◌≤◌, ℕ, List, length, get_or, inl, inr, max, sym, ap, subst, ◌∙◌, arith}
use Rattle.std.proofs.lemmas.Bool.{cases_lt}
use Rattle.std.specs.List.Sorted.{IsNonDecreasingBy}
use Rattle.clru_curve.specs.SizedCurves.{missed_size_within, step}
use Rattle.clru_curve.specs.declared.sized.step.Step.{Step}
use Rattle.clru_report.specs.Faithful.{off_at}
use Rattle.clru_report.specs.Scans.{IsGreatestOf}
use Rattle.clru_report.proofs.Falls.{span}
use Rattle.clru_report.proofs.OffLines.{greatest_on, off_start, raised_above, raised_at, raised_is, raised_most, raised_start}
use Rattle.clru_report.proofs.SizedPieces.{missed_are}
use Rattle.clru_report.proofs.sized.faithful.greatest_by_size.Given.{Over}
use Rattle.clru_report.proofs.sized.faithful.greatest_by_size.Goals as goal
use Rattle.clru_report.proofs.sized.faithful.greatest_by_size.Goals.{then-next-last, else-next-last}

pub loop-index-init : goal.loop-index-init
loop-index-init g c =
    let a = c.args.a in let b = c.args.b in let m = missed_size_within c.args.curve.now in (
      raised_start (off_at m a b) a b c.max.result (omega (arith, c.requires)) (off_start m a b),
      omega arith,
      omega (arith, c.requires),
      λ j low. omega (
        arith,
        c.steps_up_to-index.ensures.point.0 j (step 0 0) (omega arith) low,
        ap (λ (ss : List Step). (get_or ss j (step 0 0)).capacity) c.as_slice-steps.ensures.steps,
      ),
      omega arith,
    )

pub loop-index-preserved-then-most_of_block-found : goal.loop-index-preserved-then-most_of_block-found
loop-index-preserved-then-most_of_block-found g c =
    let curve = c.args.curve.now in let a = c.args.a in let b = c.args.b in let f = off_at (missed_size_within curve) a b in
    let i = c.loop-index.index in let last = c.loop-index.last in let found = c.loop-index.found in let before = c.loop-index.invariant in
    let k : ℕ = c.min-after.result - 1 in
    let steps = c.as_slice-steps.ensures.steps in
    let rising = subst (λ ss. IsNonDecreasingBy (λ s. s.capacity) ss) steps c.as_slice-steps.ensures.rising in
    let further : i < c.min-after.result =
    omega (arith, c.min-after.ensures, c.saturating_add.ensures, c.loop-index-test.true, before.4, c.loop-index.auto.index-fits.fits) in
    let early : k < c.steps_up_to-to.result = omega (arith, c.min-after.ensures, further) in
    let inside = subst (λ ss. k < length ss) steps (omega (arith, early, c.steps_up_to-to.ensures.bound)) in
    let at = ap (λ (ss : List Step). (get_or ss k (step 0 0)).capacity) steps in
    let low = c.steps_up_to-to.ensures.point.0 k (step 0 0) (omega arith) early in
    let below : span curve k < b = omega (arith, low, at, c.requires) in
    let near = c.most_of_block.ensures a b c.point_by_size-start.ensures c.point_by_size-end.ensures
    (omega (arith, before.1)) (omega (arith, below)) before.3 in
    let end : c.max-last.result ≡ max last (span curve k) = c.max-last.ensures ∙ ap (λ n. max last n) at in (
      greatest_on (raised_at a c.max.result f) a b last c.max-last.result found.0 found.1 before.0
          (λ y from less. omega (
            arith,
            near y from (omega (arith, from, less, end)),
            c.if-most_of_block-found.true,
            raised_above a c.max.result f y (omega (arith, before.1, from)),
          )),
      omega (arith, end, before.1),
      omega (arith, end, before.2, below),
      λ j low. omega (arith, rising j k (step 0 0) (omega (arith, low)) inside, end),
      omega (arith, c.saturating_mul-count.ensures, before.4),
    )

pub loop-index-preserved : goal.loop-index-preserved
loop-index-preserved g c =
    let curve = c.args.curve.now in let a = c.args.a in let b = c.args.b in let m = missed_size_within curve in
    let f = raised_at a c.max.result (off_at m a b) in
    let i = c.loop-index.index in let last = c.loop-index.last in let own = span curve i in let next = c.if-next-last in
    let steps = c.as_slice-steps.ensures.steps in
    let rising = subst (λ ss. IsNonDecreasingBy (λ s. s.capacity) ss) steps c.as_slice-steps.ensures.rising in
    let within : i < length c.as_slice-steps.result.now = omega (arith, c.loop-index-test.true, c.steps_up_to-to.ensures.bound) in
    let inside = subst (λ ss. i < length ss) steps within in
    let at = ap (λ (ss : List Step). (get_or ss i (step 0 0)).capacity) steps in
    let low = c.steps_up_to-to.ensures.point.0 i (step 0 0) (omega arith) c.loop-index-test.true in
    let below : own < b = omega (arith, low, at, c.requires) in
    let before = c.loop-index.invariant in
    elim c.if-next-last.branch [
      | then-next-last w ↦
          let more : last < own = omega (arith, w.if-next-last.true, at) in
          let stays = λ (y : ℕ) (from : last ≤ y) (low : y < (get_or c.as_slice-steps.result.now i (step 0 0)).capacity).
          missed_are curve i y (omega (arith, inside)) (λ j early. omega (arith, before.3 j early, from))
          (λ j late in_steps. omega (arith, rising i j (step 0 0) late in_steps, low, at)) ∙ sym w.missed_after-misses.ensures in
          let is = w.further_on-found.ensures m f a b c.point_by_size-start.ensures c.point_by_size-end.ensures
          (omega (arith, before.1)) (omega (arith, below, at)) stays
          (λ y from low. raised_above a c.max.result (off_at m a b) y (omega (arith, before.1, from))) before.0 in
          let here = w.last-is ∙ at in (
            subst (λ n. IsGreatestOf f a b n next.found.0 next.found.1) (sym w.last-is)
                (subst (λ n. IsGreatestOf f a b _ n.0 n.1) (sym w.found-is) is),
            omega (arith, here, more, before.1),
            omega (arith, here, below),
            λ j low. omega (arith, rising j i (step 0 0) (omega (arith, low)) inside, here),
            omega arith,
          )
      | else-next-last w ↦
          let less : own ≤ last = omega (arith, w.if-next-last.false, at) in (
            subst (λ n. IsGreatestOf f a b n next.found.0 next.found.1) (sym w.last-is)
                (subst (λ n. IsGreatestOf f a b last n.0 n.1) (sym w.found-is) before.0),
            omega (arith, w.last-is, before.1),
            omega (arith, w.last-is, before.2),
            λ j low. elim (cases_lt j i) [
              | inl early ↦ omega (arith, before.3 j early, w.last-is)
              | inr late ↦ let same : j ≡ i = omega (arith, low, late) in omega (arith, ap (span curve) same, less, w.last-is)
            ],
            omega arith,
          )
    ]

-- what was found counts the first capacity as that far off
found : (g : Over) (c : goal.After-further_on g)
    → IsGreatestOf (raised_at c.args.a c.max.result (off_at (missed_size_within c.args.curve.now) c.args.a c.args.b))
    c.args.a c.args.b c.args.b c.further_on.result.0 c.further_on.result.1
found g c =
    let curve = c.args.curve.now in let a = c.args.a in let b = c.args.b in let m = missed_size_within curve in
    let before = c.loop-index.invariant in let f = off_at m a b in
    let steps = c.as_slice-steps.ensures.steps in let to = c.steps_up_to-to.result in
    let bound : to ≤ length curve.steps = subst (λ ss. to ≤ length ss) steps c.steps_up_to-to.ensures.bound in
    let stays = λ (y : ℕ) (from : c.loop-index.last ≤ y) (low : y < b).
    missed_are curve to y bound (λ j early. omega (arith, before.3 j (omega (arith, early, c.loop-index-test.false)), from))
    (λ j late in_steps.
    let high = c.steps_up_to-to.ensures.point.1 j (step 0 0) late (subst (λ ss. j < length ss) (sym steps) in_steps) in
    omega (arith, high, ap (λ (ss : List Step). (get_or ss j (step 0 0)).capacity) steps, low)) ∙ sym c.missed_after-misses-2.ensures in
    c.further_on.ensures m (raised_at a c.max.result f) a b c.point_by_size-start.ensures c.point_by_size-end.ensures
    (omega (arith, before.1)) (omega arith) stays
    (λ y from low. raised_above a c.max.result f y (omega (arith, before.1, from))) before.0

pub returns-clause-covered : goal.returns-clause-covered
returns-clause-covered g c y from below = omega (arith, (found g c).covered y from below)

pub returns-clause-far : goal.returns-clause-far
returns-clause-far g c more =
    let a = c.args.a in let b = c.args.b in let f = off_at (missed_size_within c.args.curve.now) a b in
    let some = c.far_somewhere.ensures in let least = c.max.result in let is = found g c in
    let none = off_start (missed_size_within c.args.curve.now) a b in
    let best = c.further_on.result.0 in let most = c.further_on.result.1 in
    let above : least < most = elim (cases_lt least (f some.0)) [
      | inl less ↦ raised_most f a b least some.0 best most none some.1 some.2 less is
      | inr reach ↦ omega (arith, c.max.ensures, c.saturating_sub.ensures, some.3, reach, more)
    ] in
    raised_is f a b least best most none above is
