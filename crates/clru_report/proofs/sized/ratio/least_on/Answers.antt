use Rattle.std.proofs.Common.{List, ◌<◌, ◌≤◌, ◌+◌, get_or, length, sym, ap, ◌∙◌, subst, arith}
use Rattle.std.specs.List.Sorted.{IsNonDecreasingBy}
use Rattle.clru_curve.specs.SizedCurves.{step}
use Rattle.clru_curve.specs.declared.sized.step.Step.{Step}
use Rattle.clru_report.proofs.LeastSizes.{IsPassed, enough_shown, found_before, found_last, passed_same, passed_step}
use Rattle.clru_report.proofs.sized.ratio.least_on.Goals as goal
use Rattle.clru_report.proofs.sized.ratio.least_on.Goals.{then-next-last+else-is_enough, else-next-last}

pub returns-then-is_enough-clause-least : goal.returns-then-is_enough-clause-least
returns-then-is_enough-clause-least g c =
    let curve = c.args.curve.now in let r = c.args.ratio.number in let whole = c.args.whole in let bytes = c.args.bytes in
    let i = c.loop-index.index in let steps = c.as_slice-steps.ensures.steps in
    let rising = subst (λ ss. IsNonDecreasingBy (λ s. s.capacity) ss) steps c.as_slice-steps.ensures.rising in
    let few = subst (λ ss. length ss ≤ curve.requests) steps c.as_slice-steps.ensures.few in
    let inside = subst (λ ss. i < length ss) steps c.loop-index-test.true in
    let at = ap (λ (ss : List Step). (get_or ss i (step 0 0)).capacity) steps in
    found_before r whole bytes curve c.requires.settled rising few (c.requires.settled.greatest c.requires.some) c.loop-index.last i
    c.loop-index.invariant inside (omega (arith, c.if-next-last.true, at))
    (enough_shown r whole bytes curve i c.as_slice-steps.result.now c.missing_after-fewest.result c.missing_after.result steps
    c.missing_after-fewest.ensures c.missing_after.ensures ∙ sym c.is_enough.ensures ∙ c.if-is_enough.true)

pub loop-index-preserved : goal.loop-index-preserved
loop-index-preserved g c =
    let curve = c.args.curve.now in let r = c.args.ratio.number in let whole = c.args.whole in let bytes = c.args.bytes in
    let i = c.loop-index.index in let last = c.loop-index.last in let steps = c.as_slice-steps.ensures.steps in
    let rising = subst (λ ss. IsNonDecreasingBy (λ s. s.capacity) ss) steps c.as_slice-steps.ensures.rising in
    let few = subst (λ ss. length ss ≤ curve.requests) steps c.as_slice-steps.ensures.few in
    let some = c.requires.settled.greatest c.requires.some in
    let inside = subst (λ ss. i < length ss) steps c.loop-index-test.true in
    let at = ap (λ (ss : List Step). (get_or ss i (step 0 0)).capacity) steps in
    elim c.if-next-last.branch [
      | then-next-last+else-is_enough w ↦
          subst (λ n. IsPassed r whole bytes curve n (i + 1)) (sym (w.last-is ∙ at))
          (passed_step r whole bytes curve c.requires.settled rising few some last i c.loop-index.invariant inside
          (omega (arith, w.if-next-last.true, at))
          (enough_shown r whole bytes curve i c.as_slice-steps.result.now c.missing_after-fewest.result w.missing_after.result steps
          c.missing_after-fewest.ensures w.missing_after.ensures ∙ sym w.is_enough.ensures ∙ w.if-is_enough.false))
      | else-next-last w ↦
          subst (λ n. IsPassed r whole bytes curve n (i + 1)) (sym w.last-is)
          (passed_same r whole bytes curve last i c.loop-index.invariant (omega (arith, w.if-next-last.false, at)))
    ]

pub returns-clause-least : goal.returns-clause-least
returns-clause-least g c =
    let curve = c.args.curve.now in let steps = c.as_slice-steps.ensures.steps in
    let rising = subst (λ ss. IsNonDecreasingBy (λ s. s.capacity) ss) steps c.as_slice-steps.ensures.rising in
    let few = subst (λ ss. length ss ≤ curve.requests) steps c.as_slice-steps.ensures.few in
    found_last c.args.ratio.number c.args.whole c.args.bytes curve c.requires.settled rising few (c.requires.settled.greatest c.requires.some)
    c.loop-index.last c.loop-index.index c.loop-index.invariant (subst (λ ss. length ss ≤ c.loop-index.index) steps c.loop-index-test.false)
