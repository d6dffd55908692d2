use Rattle.std.proofs.Common.{◌+◌, ◌-◌, ◌++◌, ◌∷◌, ◌≡◌, ◌<◌, [], false, map, take, take_all, sym, ap, ◌∙◌, subst, arith}
use Rattle.std.specs.Prelude.{bytes_eq}
use Rattle.std.proofs.lemmas.List.{map-append, take_more}
use Rattle.std.proofs.lemmas.List.Elements.{All-get_or}
use Rattle.clru_curve.specs.Curves.{misses_at}
use Rattle.clru_model.specs.Requests.{misses}
use Rattle.clru_report.specs.After.{AreRowsBehind, misses_behind}
use Rattle.clru_report.specs.Report.{IsRow}
use Rattle.clru_report.specs.Tables.{capacity_of_row}
use Rattle.clru_report.proofs.AfterLemmas.{rows_more_behind}
use Rattle.clru_report.proofs.after.rows_behind.Goals as goal

pub loop-row-preserved : goal.loop-row-preserved
loop-row-preserved g c n lines head all =
    let i = c.loop-row.row-index in let rows = c.args.rows.now in let row = c.row-item.result in let lt = c.loop-row-test.true in
    let at = subst (IsRow bytes_eq lines false false) (sym c.row-item.is) (All-get_or (IsRow bytes_eq lines false false) rows i row lt all) in
    let more = ap (map capacity_of_row) (take_more rows i row lt ∙ ap (λ r. take i rows ++ r ∷ []) (sym c.row-item.is))
    ∙ map-append capacity_of_row (take i rows) (row ∷ [])
    ∙ ap (λ k. map capacity_of_row (take i rows) ++ k ∷ []) (sym c.row_behind.ensures.capacity) in
    let to = c.row_behind.result in let same = c.row_behind.ensures.capacity in
    let some : 0 < capacity_of_row row = omega (arith, c.row_behind.ensures.positive, same) in
    let left : to.misses ≡ misses_behind n lines (capacity_of_row to) =
    c.row_behind.ensures.misses ∙ ap (λ m. m - misses_at c.args.head.now (capacity_of_row row)) at.0
    ∙ ap (λ m. misses bytes_eq (capacity_of_row row) lines - m) (head (capacity_of_row row) some)
    ∙ ap (misses_behind n lines) (sym same) in
    rows_more_behind n lines (map capacity_of_row (take i rows)) (map capacity_of_row (take (i + 1) rows)) c.loop-row.found.items
    c.push.new.self.items to (c.loop-row.invariant n lines head all) c.in_ok-push.ensures.items more
    (record { misses = left; least = c.row_behind.ensures.least; floor = c.row_behind.ensures.floor })

pub returns : goal.returns
returns g c n lines capacities head are =
    let i = c.loop-row.row-index in let rows = c.args.rows.now in
    subst (λ cs. AreRowsBehind n lines cs c.loop-row.found.items)
    (ap (map capacity_of_row) (take_all i rows (omega (arith, c.loop-row-test.false))) ∙ are.0) (c.loop-row.invariant n lines head are.1)
