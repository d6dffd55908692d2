use Rattle.std.proofs.Common.{◌≡◌, ◌+◌, ◌∷◌, drop, drop-cons, add-one, append_assoc, sym, ap, ◌∙◌, arith}
use Rattle.clru_report.specs.Knees.{is_among}
use Rattle.clru_report.specs.SizedTables.{line_of_sized_row}
use Rattle.clru_report.proofs.sized.table.sized_table_of.Goals as goal

pub loop-index-preserved : goal.loop-index-preserved
loop-index-preserved g c =
    let i = c.loop-index.index in let rows = c.args.rows.now in let row = c.index-rows-index.result in
    let first : drop i rows ≡ row ∷ drop (i + 1) rows = rw add-one (drop-cons rows i row (omega (arith, c.loop-index-test.true)))
    ∙ ap (λ r. r ∷ drop (i + 1) rows) (sym c.index-rows-index.is) in
    let line = c.sized_line_of-line.ensures ∙ ap (λ knee. line_of_sized_row c.args.requests c.args.size c.loop-index.before knee row)
    (c.is_knee-knee.ensures ∙ ap (is_among c.args.knees.now) c.get.ensures.value) in
    rw (c.in_ok-push_row.ensures, append_assoc, c.point_of-before.ensures, line) (rw first at c.loop-index.invariant)
