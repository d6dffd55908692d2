use Rattle.std.proofs.Common.{ℕ, ◌+◌, ◌^◌, ◌<◌, ◌∷◌, ◌++◌, [], length, get_or, None, ap, ◌∙◌}
use Rattle.std.proofs.lemmas.List.{append_assoc, length_push}
use Rattle.clru_curve.specs.Rows.{IsMinimum}
use Rattle.clru_curve.proofs.Rows.{both_more}
use Rattle.clru_curve.proofs.splits.row.next_row.Goals as goal

pub loop-units-preserved : goal.loop-units-preserved
loop-units-preserved g c =
    let at = c.loop-units.invariant in let n = c.loop-units.units in
    let v = c.cheapest-least.result.0 in let x = c.cheapest-least.result.1 in
    let prices = c.args.prices.now in let before = c.args.before.now in
    let vs = c.loop-units.row.items in let xs = at.added.0 in
    let minimum = λ (j w y : ℕ). IsMinimum (λ k. get_or prices k None) before j w y in
    let grown = λ (j w y : ℕ). w < get_or before j 0 + 2 ^ 64 in
    record {
      numbers = ap (λ l. length l) c.in_ok-push.ensures.items ∙ length_push vs v ∙ ap (λ k. k + 1) at.numbers;
      added = (
        xs ++ x ∷ [],
        c.in_ok-push-2.ensures.items ∙ ap (λ l. l ++ x ∷ []) at.added.1 ∙ append_assoc c.args.choices.now.items xs (x ∷ []),
        length_push xs x ∙ ap (λ k. k + 1) at.added.2,
        λ j below. rw c.in_ok-push.ensures.items
            (both_more minimum n vs xs v x at.numbers at.added.2 at.added.3 c.cheapest-least.ensures.least j below),
      );
      grows = λ j below. rw c.in_ok-push.ensures.items
          (both_more grown n vs xs v x at.numbers at.added.2 at.grows c.cheapest-least.ensures.grows j below);
    }
