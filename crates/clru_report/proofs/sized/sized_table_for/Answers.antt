use Rattle.std.proofs.Common.{map, ap, ◌∙◌, subst}
use Rattle.std.specs.Int.NonZero.{non_zero_usize_get}
use Rattle.clru_report.specs.Passes.{AreRowsOf, IsUsualOn, capacities_on}
use Rattle.clru_report.specs.SizedTables.{sized_table_text}
use Rattle.clru_report.proofs.sized.sized_table_for.Goals as goal

pub returns-in-Ok-sized_table_of-clause-table : goal.returns-in-Ok-sized_table_of-clause-table
returns-in-Ok-sized_table_of-clause-table g c =
    let options = c.args.options.now in let curve = c.args.curve.now in let floors = c.args.floors.now in
    let table = map non_zero_usize_get c.in-Ok.table.capacities.items in let marked = c.in-Ok.table.knees.items in
    let rows = c.in_ok-rows.rows.items in
    record {
      table = table;
      marked = marked;
      rows = rows;
      usual = subst (λ n. IsUsualOn curve n table marked) c.size.ensures c.in-Ok.ensures;
      rowed = subst (λ cs. AreRowsOf curve floors (capacities_on curve options.capacities curve.requests curve.size cs) rows)
          (ap (map non_zero_usize_get) c.deref.ensures.value) c.in_ok-rows.ensures.rows;
      is = c.in-Ok-sized_table_of.ensures
          ∙ ap (λ n. sized_table_text c.args.json options.floor n c.size-2.result c.deref-3.result.now c.deref-2.result.now) c.requests.ensures
          ∙ ap (λ n. sized_table_text c.args.json options.floor curve.requests n c.deref-3.result.now c.deref-2.result.now) c.size-2.ensures
          ∙ ap (λ ks. sized_table_text c.args.json options.floor curve.requests curve.size ks c.deref-2.result.now) c.deref-3.ensures.value
          ∙ ap (sized_table_text c.args.json options.floor curve.requests curve.size marked) c.deref-2.ensures.value;
    }
