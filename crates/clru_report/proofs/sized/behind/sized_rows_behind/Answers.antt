use Rattle.std.proofs.Common.{◌+◌, ◌-◌, ◌++◌, ◌∷◌, [], map, take, take_all, sym, ap, ◌∙◌, subst, arith}
use Rattle.std.proofs.lemmas.List.{map-append, take_more}
use Rattle.std.proofs.lemmas.List.Elements.{All-get_or}
use Rattle.clru_curve.specs.SizedCurves.{misses_within, missed_size_within}
use Rattle.clru_report.specs.Passes.{IsRowOf}
use Rattle.clru_report.specs.SizedAfterPasses.{AreRowsLeft, misses_left, missed_left}
use Rattle.clru_report.specs.SizedTables.{capacity_of_sized_row}
use Rattle.clru_report.proofs.SizedAfterLemmas.{rows_more_left}
use Rattle.clru_report.proofs.sized.behind.sized_rows_behind.Goals as goal

pub loop-row-preserved : goal.loop-row-preserved
loop-row-preserved g c curve floors all =
    let head = c.args.head.now in
    let i = c.loop-row.row-index in let rows = c.args.rows.now in let row = c.row-item.result in let lt = c.loop-row-test.true in
    let at = subst (IsRowOf curve floors) (sym c.row-item.is) (All-get_or (IsRowOf curve floors) rows i row lt all) in
    let to = c.sized_row_behind.result in let left = c.sized_row_behind.ensures in let same = left.capacity in
    let more = ap (map capacity_of_sized_row) (take_more rows i row lt ∙ ap (λ r. take i rows ++ r ∷ []) (sym c.row-item.is))
    ∙ map-append capacity_of_sized_row (take i rows) (row ∷ [])
    ∙ ap (λ k. map capacity_of_sized_row (take i rows) ++ k ∷ []) (sym same) in
    rows_more_left curve head (map capacity_of_sized_row (take i rows)) (map capacity_of_sized_row (take (i + 1) rows)) c.loop-row.found.items
    c.push.new.self.items to (c.loop-row.invariant curve floors all) c.in_ok-push.ensures.items more
    (record {
      misses = left.misses ∙ ap (λ n. n - misses_within head (capacity_of_sized_row row)) at.misses ∙ ap (misses_left curve head) (sym same);
      missed_size = left.missed_size ∙ ap (λ n. n - missed_size_within head (capacity_of_sized_row row)) at.missed_size
          ∙ ap (missed_left curve head) (sym same);
      floor = left.floor;
      answered = omega (arith, at.answered, same);
    })

pub returns : goal.returns
returns g c curve floors capacities are =
    let i = c.loop-row.row-index in let rows = c.args.rows.now in
    subst (λ cs. AreRowsLeft curve c.args.head.now cs c.loop-row.found.items)
    (ap (map capacity_of_sized_row) (take_all i rows (omega (arith, c.loop-row-test.false))) ∙ are.0) (c.loop-row.invariant curve floors are.1)
