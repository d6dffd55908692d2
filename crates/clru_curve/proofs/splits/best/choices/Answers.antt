use Rattle.std.proofs.Common.{◌≡◌, ℕ, ◌+◌, ◌-◌, ◌*◌, ◌<◌, ◌∷◌, None, length, get_or, drop, sym, ap, ◌∙◌, subst, arith}
use Rattle.std.proofs.lemmas.List.{drop_more}
use Rattle.clru_curve.specs.Splits.{missed_at}
use Rattle.clru_curve.specs.Rows.{IsMinimum, IsRow, AreChoices}
use Rattle.clru_curve.proofs.Rows.{row_next, choices_next}
use Rattle.clru_curve.proofs.splits.best.choices.Goals as goal

pub loop-done-preserved : goal.loop-done-preserved
loop-done-preserved g c =
    let all = g.C.Curve.all in let missed = g.C.Curve.missed in let step = c.args.step in let w = c.args.width in
    let curves = c.args.curves.now in let i = length curves - 1 - c.loop-done.done in let at = c.loop-done.invariant in
    let curve = c.index-curves-curves.result in let cs = drop (length curves - c.loop-done.done) curves in
    let given = c.deref.ensures.value in let before = c.deref-in-loop-done.ensures.value in
    let prices = c.deref.result.now in let row = c.deref-in-loop-done.result.now in let next = c.in_ok-row.row.items in
    let least = c.in_ok-row.ensures.least in let added = least.0 in
    let whole : drop (length curves - (c.loop-done.done + 1)) curves ≡ curve ∷ cs =
    let here : length curves - (c.loop-done.done + 1) ≡ i = omega arith in
    let after : i + 1 ≡ length curves - c.loop-done.done = omega (arith, c.loop-done-test.true) in
    ap (λ k. drop k curves) here ∙ drop_more curves i curve (omega (arith, c.loop-done-test.true))
    ∙ ap (λ x. x ∷ drop (i + 1) curves) (sym c.index-curves-curves.is) ∙ ap (λ k. curve ∷ drop k curves) after in
    let wide : length row ≡ w = ap (λ l. length l) before ∙ at.numbers in
    let same : length next ≡ w = c.in_ok-row.ensures.length ∙ wide in
    let is = subst (λ l. IsRow all missed step cs l) (sym before) at.row in
    let priced : (y : ℕ) → y < w → get_or prices y None ≡ missed_at all missed curve (y * step) =
    λ y low. ap (λ l. get_or l y None) given ∙ c.in_ok-prices.ensures.prices y low in
    let min : (j : ℕ) → j < w → IsMinimum (λ y. get_or prices y None) row j (get_or next j 0) (get_or added j 0) =
    λ j low. least.3 j (omega (arith, low, wide)) in
    record {
      numbers = same;
      row = subst (λ l. IsRow all missed step l next) (sym whole)
          (row_next all missed step c.requires.step curve cs w row next added prices wide is priced min same);
      chosen = subst (λ l. AreChoices all missed step w l c.next_row.new.choices.items) (sym whole)
          (subst (λ l. AreChoices all missed step w (curve ∷ cs) l) (sym least.1)
          (choices_next all missed step c.requires.step curve cs w row next added prices wide is priced min c.loop-done.choices.items (least.2 ∙ wide) at.chosen));
      small = λ j low. omega (arith, at.small j low, ap (λ l. get_or l j 0) before, c.in_ok-row.ensures.grows j (omega (arith, low, wide)));
    }
