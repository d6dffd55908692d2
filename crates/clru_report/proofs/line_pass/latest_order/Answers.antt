use Rattle.std.proofs.Common.{◌≡◌, ℕ, List, [], ◌∷◌, ◌++◌, reverse, rules, sym, ap, subst, ◌∙◌, arith}
use Rattle.std.proofs.lemmas.List.Sorted.{IsNonDecreasingBy-from_sort_by_key}
use Rattle.std.proofs.lemmas.List.{length-reverse, reverse-reverse, take_all}
use Rattle.std.specs.List.Sorted.{IsPermutation}
use Rattle.clru_report.specs.LinePasses.{IsInOrder}
use Rattle.clru_report.proofs.LatestLines.{in_order, placed, placed_from, placed_more}
use Rattle.clru_report.proofs.line_pass.latest_order.Goals as goal
use Rattle.clru_report.proofs.line_pass.latest_order.Goals.{in-Some+in-Ok, in_default}

pub loop-index-preserved : goal.loop-index-preserved
loop-index-preserved g c =
    let es = reverse c.args.latest.now in let i = c.loop-index.index in
    elim c.match-get_index.branch [
      | in-Some+in-Ok w ↦
          let e : List ℕ × ℕ = (w.in-Some.field-0-0.now, w.in-Some.position) in
          ap (λ v. v.items) w.order-is ∙ w.in-Ok.ensures.items ∙ ap (λ l. l ++ placed w.in-Some.position i ∷ []) c.loop-index.invariant
          ∙ sym (placed_more es i e w.in-Some.ensures.found)
      | in_default w ↦ absurd (omega (arith, c.len-index-end.ensures, c.loop-index-test.true, w.in_default.ensures.none))
    ]

pub returns : goal.returns
returns g c =
    let latest = c.args.latest.now in let es = reverse latest in let order = c.sort_unstable_by_key.new.self.items in
    let all : c.loop-index.order.items ≡ placed_from 0 es =
    c.loop-index.invariant ∙ ap (placed_from 0) (take_all c.loop-index.index es (omega (arith, c.len-index-end.ensures, length-reverse latest, c.loop-index-test.false))) in
    let rising = IsNonDecreasingBy-from_sort_by_key (λ o. o.position) order c.sort_unstable_by_key.ensures.sorted (λ a r q k. search rules) in
    subst (λ l. IsInOrder l order) (reverse-reverse latest)
    (in_order es order (subst (λ l. IsPermutation l order) all c.sort_unstable_by_key.ensures.permutation) rising)
