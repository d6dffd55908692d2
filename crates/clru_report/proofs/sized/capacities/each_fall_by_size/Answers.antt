use Rattle.std.proofs.Common.{List, ◌<◌, ◌≤◌, ◌+◌, ◌++◌, ◌∷◌, [], get_or, length, map, sym, ap, ◌∙◌, subst, arith}
use Rattle.std.specs.Int.NonZero.{non_zero_usize_get}
use Rattle.std.specs.List.Sorted.{IsNonDecreasingBy}
use Rattle.clru_curve.specs.SizedCurves.{step}
use Rattle.clru_curve.specs.declared.sized.step.Step.{Step}
use Rattle.clru_report.proofs.Falls.{IsChosen, chosen_all, chosen_first, chosen_same, chosen_step, span}
use Rattle.clru_report.proofs.sized.capacities.each_fall_by_size.Goals as goal
use Rattle.clru_report.proofs.sized.capacities.each_fall_by_size.Goals.{then-step-last+in_ok-push_capacity-2, else-step-last}

pub loop-step-init : goal.loop-step-init
loop-step-init g c =
    let curve = c.args.curve.now in let n = c.first_capacity-last.result in
    let steps = c.as_slice-step-items.ensures.steps in
    let rising = subst (λ ss. IsNonDecreasingBy (λ s. s.capacity) ss) steps c.as_slice-step-items.ensures.rising in
    let few = subst (λ ss. length ss ≤ curve.requests) steps c.as_slice-step-items.ensures.few in
    let some : 0 < curve.distinct_size = omega (arith, c.if-distinct_size-eq0.false, c.distinct_size.ensures) in
    let pushed = c.in_ok-push_capacity.ensures ∙ ap (λ xs. map non_zero_usize_get xs ++ n ∷ []) c.new-chosen.ensures.items in
    subst (λ ns. IsChosen curve n 0 ns) (sym pushed)
    (subst (λ k. IsChosen curve k 0 (k ∷ [])) (sym c.first_capacity-last.ensures)
    (chosen_first curve c.requires rising few (c.requires.greatest some)))

pub loop-step-preserved : goal.loop-step-preserved
loop-step-preserved g c =
    let curve = c.args.curve.now in let i = c.loop-step.step-index in let last = c.loop-step.last in
    let chosen = map non_zero_usize_get c.loop-step.chosen.items in
    let steps = c.as_slice-step-items.ensures.steps in
    let rising = subst (λ ss. IsNonDecreasingBy (λ s. s.capacity) ss) steps c.as_slice-step-items.ensures.rising in
    let few = subst (λ ss. length ss ≤ curve.requests) steps c.as_slice-step-items.ensures.few in
    let inside = subst (λ ss. i < length ss) steps c.loop-step-test.true in
    let at = ap (λ (ss : List Step). (get_or ss i (step 0 0)).capacity) steps in
    elim c.if-step-last.branch [
      | then-step-last+in_ok-push_capacity-2 w ↦
          let items = ap (λ v. map non_zero_usize_get v.items) w.chosen-is ∙ w.in_ok-push_capacity-2.ensures ∙ ap (λ n. chosen ++ n ∷ []) at in
          subst (λ n. IsChosen curve n (i + 1) (map non_zero_usize_get c.if-step-last.chosen.items)) (sym (w.last-is ∙ at))
          (subst (λ ns. IsChosen curve (span curve i) (i + 1) ns) (sym items)
          (chosen_step curve c.requires rising few last i chosen c.loop-step.invariant inside (omega (arith, w.if-step-last.true, at))))
      | else-step-last w ↦
          let items = ap (λ v. map non_zero_usize_get v.items) w.chosen-is in
          subst (λ n. IsChosen curve n (i + 1) (map non_zero_usize_get c.if-step-last.chosen.items)) (sym w.last-is)
          (subst (λ ns. IsChosen curve last (i + 1) ns) (sym items)
          (chosen_same curve c.requires rising few last i chosen c.loop-step.invariant inside (omega (arith, w.if-step-last.false, at))))
    ]

pub returns : goal.returns
returns g c =
    let curve = c.args.curve.now in
    let steps = c.as_slice-step-items.ensures.steps in
    let rising = subst (λ ss. IsNonDecreasingBy (λ s. s.capacity) ss) steps c.as_slice-step-items.ensures.rising in
    let few = subst (λ ss. length ss ≤ curve.requests) steps c.as_slice-step-items.ensures.few in
    chosen_all curve c.requires rising few c.loop-step.last c.loop-step.step-index _ c.loop-step.invariant
    (subst (λ ss. length ss ≤ c.loop-step.step-index) steps c.loop-step-test.false)
