use Rattle.std.proofs.Common.{◌≡◌, ◌-◌, ◌*◌, ◌/◌, subst, arith}
use Rattle.std.proofs.lemmas.Result.{IfOk-weaker}
use Rattle.std.specs.Int.NonZero.{non_zero_usize_get}
use Rattle.clru_curve.specs.Splits.{IsBestSplit, IsFirstBest}
use Rattle.clru_curve.proofs.Rows.{best_of_budget, first_of_budget}
use Rattle.clru_curve.proofs.splits.best.split.Goals as goal

pub returns-clause-best : goal.returns-clause-best
returns-clause-best g c =
    let step = c.get-step.result in let units = c.args.budget / step in
    let known = c.in-Some.ensures in
    let whole : c.in-Some.width - 1 ≡ units = omega (arith, known.1) in
    IfOk-weaker c.follow.result
    (λ l. IsBestSplit g.C.Curve.all g.C.Curve.missed step ((c.in-Some.width - 1) * step) c.args.curves.now l.items)
    (λ l. IsBestSplit g.C.Curve.all g.C.Curve.missed (non_zero_usize_get c.args.step) c.args.budget c.args.curves.now l.items)
    (λ l b.
    subst (λ s. IsBestSplit g.C.Curve.all g.C.Curve.missed s c.args.budget c.args.curves.now l.items) c.get-step.ensures.value
    (best_of_budget g.C.Curve.all g.C.Curve.missed step c.get-step.ensures.nonzero c.args.budget c.args.curves.now l.items
    (subst (λ n. IsBestSplit g.C.Curve.all g.C.Curve.missed step (n * step) c.args.curves.now l.items) whole b)))
    c.follow.ensures.best

pub returns-clause-first : goal.returns-clause-first
returns-clause-first g c =
    let step = c.get-step.result in let units = c.args.budget / step in
    let known = c.in-Some.ensures in
    let whole : c.in-Some.width - 1 ≡ units = omega (arith, known.1) in
    IfOk-weaker c.follow.result
    (λ l. IsFirstBest g.C.Curve.all g.C.Curve.missed step ((c.in-Some.width - 1) * step) c.args.curves.now l.items)
    (λ l. IsFirstBest g.C.Curve.all g.C.Curve.missed (non_zero_usize_get c.args.step) c.args.budget c.args.curves.now l.items)
    (λ l f.
    subst (λ s. IsFirstBest g.C.Curve.all g.C.Curve.missed s c.args.budget c.args.curves.now l.items) c.get-step.ensures.value
    (first_of_budget g.C.Curve.all g.C.Curve.missed step c.get-step.ensures.nonzero c.args.budget c.args.curves.now l.items
    (subst (λ n. IsFirstBest g.C.Curve.all g.C.Curve.missed step (n * step) c.args.curves.now l.items) whole f)))
    c.follow.ensures.first
