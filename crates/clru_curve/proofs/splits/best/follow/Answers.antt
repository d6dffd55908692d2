use Rattle.std.proofs.Common.{◌+◌, ◌-◌, ◌*◌, ◌^◌, ◌<◌, ◌∷◌, ◌++◌, [], length, get_or, sym, ap, ◌∙◌, subst, arith}
use Rattle.std.proofs.lemmas.List.{append_assoc, append-nil, drop_all, take_all}
use Rattle.clru_curve.specs.Splits.{IsBestSplit, IsFirstBest}
use Rattle.clru_curve.specs.Rows.{AreChoices}
use Rattle.clru_curve.proofs.Rows.{best_none}
use Rattle.clru_curve.proofs.Following.{is_next, part_fits}
use Rattle.clru_curve.proofs.splits.best.follow.Goals as goal

pub overflow_sub-unread : goal.overflow_sub-unread
overflow_sub-unread g c =
    let next = is_next g.C.Curve.all g.C.Curve.missed c.args.step c.args.curves.now c.args.choices.now c.args.width
    c.loop.counter c.loop.unread c.loop.left c.loop-test.true c.loop.invariant.within c.loop.invariant.left c.loop.invariant.chosen in
    omega (arith, next.room)

pub overflow_add-units : goal.overflow_add-units
overflow_add-units g c =
    let next = is_next g.C.Curve.all g.C.Curve.missed c.args.step c.args.curves.now c.args.choices.now c.args.width
    c.loop.counter c.loop.unread c.loop.left c.loop-test.true c.loop.invariant.within c.loop.invariant.left c.loop.invariant.chosen in
    omega (arith, next.room, c.loop.invariant.within, c.loop.invariant.left, c.loop.auto.left-fits)

pub bounds-choices-unread : goal.bounds-choices-unread
bounds-choices-unread g c =
    let next = is_next g.C.Curve.all g.C.Curve.missed c.args.step c.args.curves.now c.args.choices.now c.args.width
    c.loop.counter c.loop.unread c.loop.left c.loop-test.true c.loop.invariant.within c.loop.invariant.left c.loop.invariant.chosen in
    omega (arith, next.room, c.loop.invariant.within, c.loop.invariant.left)

pub offset_bounds-choices-unread : goal.offset_bounds-choices-unread
offset_bounds-choices-unread g c =
    let next = is_next g.C.Curve.all g.C.Curve.missed c.args.step c.args.curves.now c.args.choices.now c.args.width
    c.loop.counter c.loop.unread c.loop.left c.loop-test.true c.loop.invariant.within c.loop.invariant.left c.loop.invariant.chosen in
    let inside : c.loop.unread - c.args.width + c.loop.left < length c.args.choices.now =
    omega (arith, next.room, c.loop.invariant.within, c.loop.invariant.left) in
    omega (arith, inside)

pub overflow_mul-units : goal.overflow_mul-units
overflow_mul-units g c =
    let next = is_next g.C.Curve.all g.C.Curve.missed c.args.step c.args.curves.now c.args.choices.now c.args.width
    c.loop.counter c.loop.unread c.loop.left c.loop-test.true c.loop.invariant.within c.loop.invariant.left c.loop.invariant.chosen in
    let few = next.leads.within in
    omega (
      arith,
      part_fits c.args.step c.args.width (get_or c.args.choices.now (c.loop.unread - c.args.width + c.loop.left) 0) (2 ^ 64)
          (omega (arith, few, c.loop.invariant.left)) c.requires.fits,
    )

pub overflow_sub-left-in-loop : goal.overflow_sub-left-in-loop
overflow_sub-left-in-loop g c =
    let next = is_next g.C.Curve.all g.C.Curve.missed c.args.step c.args.curves.now c.args.choices.now c.args.width
    c.loop.counter c.loop.unread c.loop.left c.loop-test.true c.loop.invariant.within c.loop.invariant.left c.loop.invariant.chosen in
    omega (arith, next.leads.within)

pub loop-preserved : goal.loop-preserved
loop-preserved g c =
    let next = is_next g.C.Curve.all g.C.Curve.missed c.args.step c.args.curves.now c.args.choices.now c.args.width
    c.loop.counter c.loop.unread c.loop.left c.loop-test.true c.loop.invariant.within c.loop.invariant.left c.loop.invariant.chosen in
    let units = get_or c.args.choices.now (c.loop.unread - c.args.width + c.loop.left) 0 in
    let step = c.args.step in let k = units * step in let caps = c.loop.capacities.items in
    record {
      left = omega (arith, c.loop.invariant.left);
      within = omega (arith, c.loop.invariant.within);
      chosen = next.chosen;
      best = λ ks b.
          let more = next.leads.best ks b in
          let whole = c.loop.invariant.best (k ∷ ks)
          (subst (λ cs. IsBestSplit g.C.Curve.all g.C.Curve.missed step (c.loop.left * step) cs (k ∷ ks)) (sym next.first) more) in
          subst (λ l. IsBestSplit g.C.Curve.all g.C.Curve.missed step ((c.args.width - 1) * step) c.args.curves.now l)
          (sym (ap (λ l. l ++ ks) c.in_ok-push.ensures.items ∙ append_assoc caps (k ∷ []) ks)) whole;
      first = λ ks b f.
          let whole = c.loop.invariant.first (k ∷ ks)
          (subst (λ cs. IsBestSplit g.C.Curve.all g.C.Curve.missed step (c.loop.left * step) cs (k ∷ ks)) (sym next.first) (next.leads.best ks b))
          (subst (λ cs. IsFirstBest g.C.Curve.all g.C.Curve.missed step (c.loop.left * step) cs (k ∷ ks)) (sym next.first) (next.leads.first ks b f)) in
          subst (λ l. IsFirstBest g.C.Curve.all g.C.Curve.missed step ((c.args.width - 1) * step) c.args.curves.now l)
          (sym (ap (λ l. l ++ ks) c.in_ok-push.ensures.items ∙ append_assoc caps (k ∷ []) ks)) whole;
    }

pub returns-clause-best : goal.returns-clause-best
returns-clause-best g c =
    let step = c.args.step in let curves = c.args.curves.now in
    let none = drop_all c.loop.counter curves (omega (arith, c.loop-test.false)) in
    let whole = c.loop.invariant.best []
    (subst (λ cs. IsBestSplit g.C.Curve.all g.C.Curve.missed step (c.loop.left * step) cs []) (sym none)
    (best_none g.C.Curve.all g.C.Curve.missed step (c.loop.left * step))) in
    subst (λ l. IsBestSplit g.C.Curve.all g.C.Curve.missed step ((c.args.width - 1) * step) curves l)
    (append-nil c.loop.capacities.items) whole

pub returns-clause-first : goal.returns-clause-first
returns-clause-first g c =
    let step = c.args.step in let curves = c.args.curves.now in
    let none = drop_all c.loop.counter curves (omega (arith, c.loop-test.false)) in
    let whole = c.loop.invariant.first []
    (subst (λ cs. IsBestSplit g.C.Curve.all g.C.Curve.missed step (c.loop.left * step) cs []) (sym none)
    (best_none g.C.Curve.all g.C.Curve.missed step (c.loop.left * step))) (λ others o. tt) in
    subst (λ l. IsFirstBest g.C.Curve.all g.C.Curve.missed step ((c.args.width - 1) * step) curves l)
    (append-nil c.loop.capacities.items) whole

pub loop-init : goal.loop-init
loop-init g c = record {
  left = omega (arith, c.requires.width);
  within = omega arith;
  chosen = subst (λ l. AreChoices g.C.Curve.all g.C.Curve.missed c.args.step c.args.width c.args.curves.now l)
      (sym (take_all (length c.args.choices.now) c.args.choices.now (omega arith))) c.requires.choices;
  best = λ ks b. subst (λ l. IsBestSplit g.C.Curve.all g.C.Curve.missed c.args.step ((c.args.width - 1) * c.args.step) c.args.curves.now (l ++ ks))
      (sym c.new-capacities.ensures.items) b;
  first = λ ks b f. subst (λ l. IsFirstBest g.C.Curve.all g.C.Curve.missed c.args.step ((c.args.width - 1) * c.args.step) c.args.curves.now (l ++ ks))
      (sym c.new-capacities.ensures.items) f;
}
