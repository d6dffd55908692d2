use Rattle.std.proofs.Common.{◌+◌, ◌++◌, ◌∷◌, [], true, false, Some, refl, map, reverse, take, take_all, sym, ap, ◌∙◌, subst, arith}
use Rattle.std.specs.Int.NonZero.{non_zero_usize_get}
use Rattle.std.specs.Prelude.{bytes_eq}
use Rattle.std.proofs.lemmas.List.{map-append, take_more}
use Rattle.std.proofs.lemmas.List.Elements.{All-get_or}
use Rattle.std.proofs.lemmas.Slice.Eq.{bytes_eq-Decides}
use Rattle.clru_model.specs.Least.{IsLeast}
use Rattle.clru_text.specs.Keys.{line_of}
use Rattle.clru_report.specs.Report.{AreRows, IsRow}
use Rattle.clru_report.specs.Tables.{capacity_of_row}
use Rattle.clru_report.specs.declared.rows.Row.{Row}
use Rattle.clru_report.proofs.LeastLemmas.{least-view}
use Rattle.clru_report.proofs.RowLemmas.{floor_alike, rows_more}
use Rattle.clru_report.proofs.rows.rows_with_least.Goals as goal

pub loop-row-preserved : goal.loop-row-preserved
loop-row-preserved g c lines floored foreseen all =
    let i = c.loop-row.row-index in let rows = c.args.rows.now in let row = c.row-item.result in
    let room = non_zero_usize_get row.capacity in let n = c.in_ok-least.least in let lt = c.loop-row-test.true in
    let at = subst (IsRow bytes_eq lines false floored) (sym c.row-item.is) (All-get_or (IsRow bytes_eq lines false floored) rows i row lt all) in
    let more = ap (map capacity_of_row) (take_more rows i row lt ∙ ap (λ r. take i rows ++ r ∷ []) (sym c.row-item.is))
    ∙ map-append capacity_of_row (take i rows) (row ∷ []) in
    let of_lines = subst (λ ls. IsLeast bytes_eq room ls n) foreseen.shown
    (least-view bytes_eq bytes_eq-Decides line_of room (reverse foreseen.past) n (c.in_ok-least.ensures.least foreseen.past foreseen.taken)) in
    let next : Row = record { capacity = row.capacity; misses = row.misses; least = Some n; floor = row.floor } in
    rows_more lines true floored (map capacity_of_row (take i rows)) (map capacity_of_row (take (i + 1) rows)) c.loop-row.found.items
    c.push.new.self.items next (c.loop-row.invariant lines floored foreseen all) c.in_ok-push.ensures.items more (at.0, of_lines, floor_alike lines floored row next refl refl at.2)

pub returns : goal.returns
returns g c lines floored capacities foreseen are =
    let i = c.loop-row.row-index in let rows = c.args.rows.now in
    subst (λ cs. AreRows bytes_eq lines true floored cs c.loop-row.found.items)
    (ap (map capacity_of_row) (take_all i rows (omega (arith, c.loop-row-test.false))) ∙ are.0) (c.loop-row.invariant lines floored foreseen are.1)
