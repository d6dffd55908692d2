use Rattle.std.proofs.Common.{◌+◌, ◌++◌, ◌∷◌, [], true, false, Some, map, take, take_all, sym, ap, ◌∙◌, subst, arith}
use Rattle.std.specs.Int.NonZero.{non_zero_usize_get}
use Rattle.std.specs.Prelude.{bytes_eq}
use Rattle.std.proofs.lemmas.List.{map-append, take_more}
use Rattle.std.proofs.lemmas.List.Elements.{All-get_or}
use Rattle.clru_report.specs.Report.{AreRows, IsRow}
use Rattle.clru_report.specs.Tables.{capacity_of_row}
use Rattle.clru_report.proofs.RowLemmas.{rows_more}
use Rattle.clru_report.proofs.rows.rows_with_floor.Goals as goal

pub loop-row-preserved : goal.loop-row-preserved
loop-row-preserved g c lines floor all =
    let i = c.loop-row.row-index in let rows = c.args.rows.now in let row = c.row-item.result in let lt = c.loop-row-test.true in
    let at = subst (IsRow bytes_eq lines false false) (sym c.row-item.is) (All-get_or (IsRow bytes_eq lines false false) rows i row lt all) in
    let more = ap (map capacity_of_row) (take_more rows i row lt ∙ ap (λ r. take i rows ++ r ∷ []) (sym c.row-item.is))
    ∙ map-append capacity_of_row (take i rows) (row ∷ []) in
    rows_more lines false true (map capacity_of_row (take i rows)) (map capacity_of_row (take (i + 1) rows)) c.loop-row.found.items
    c.push.new.self.items _ (c.loop-row.invariant lines floor all) c.in_ok-push.ensures.items more
    (at.0, at.1, ap Some (c.misses.ensures ∙ floor (non_zero_usize_get row.capacity)))

pub returns : goal.returns
returns g c lines capacities floor are =
    let i = c.loop-row.row-index in let rows = c.args.rows.now in
    subst (λ cs. AreRows bytes_eq lines false true cs c.loop-row.found.items)
    (ap (map capacity_of_row) (take_all i rows (omega (arith, c.loop-row-test.false))) ∙ are.0) (c.loop-row.invariant lines floor are.1)
