use Rattle.std.proofs.Common.{ap, ◌∙◌}
use Rattle.clru_text.specs.Lines.{lines_of}
use Rattle.clru_report.specs.After.{counted}
use Rattle.clru_report.specs.SizedTables.{sized_table_text}
use Rattle.clru_report.proofs.SizedAfterLemmas.{capacities_free, too_small_refused}
use Rattle.clru_report.proofs.sized.after.sized_table_after.Goals as goal

pub returns-in-Err-clause-refused : goal.returns-in-Err-clause-refused
returns-in-Err-clause-refused g c n input of is =
    too_small_refused c.args.options.now (lines_of input) c.args.curve.now of.whole of.no_fault c.in-Err.fault of.sizes c.requires.rows
    (c.in-Err.ensures.refused is)

pub returns-in-Ok-sized_table_of-clause-table : goal.returns-in-Ok-sized_table_of-clause-table
returns-in-Ok-sized_table_of-clause-table g c n input of =
    let options = c.args.options.now in let lines = lines_of input in let found = c.in-Ok.counted in
    let totals = c.totals_behind-totals.result in let all = c.totals_behind-totals.ensures n lines of.whole of.before in
    let marked = found.knees.items in let rows = found.rows.items in (
      capacities_free options lines c.args.curve.now of.whole of.no_fault c.in-Ok.ensures.free,
      (
        marked,
        rows,
        c.in-Ok.ensures.counted n lines of.whole of.before all.0 all.1,
        c.in-Ok-sized_table_of.ensures
            ∙ ap (λ ks. sized_table_text c.args.json options.floor totals.requests totals.size ks c.deref.result.now) c.deref-2.ensures.value
            ∙ ap (sized_table_text c.args.json options.floor totals.requests totals.size marked) c.deref.ensures.value
            ∙ ap (λ k. sized_table_text c.args.json options.floor k totals.size marked rows) all.0
            ∙ ap (λ k. sized_table_text c.args.json options.floor (counted n lines) k marked rows) all.1,
      ),
    )
