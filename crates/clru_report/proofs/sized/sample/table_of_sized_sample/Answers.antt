use Rattle.std.proofs.Common.{◌≡◌, ◌-◌, ◌/◌, ◌^◌, map, ap, ◌∙◌, subst}
use Rattle.std.specs.Int.NonZero.{non_zero_usize_get}
use Rattle.clru_text.specs.Samples.{times}
use Rattle.clru_text.proofs.ResultLemmas.{ok_map}
use Rattle.clru_report.specs.Passes.{IsUsualOn}
use Rattle.clru_report.specs.SampleTables.{AreSampledRows}
use Rattle.clru_report.specs.SizedTables.{sized_table_text}
use Rattle.clru_report.proofs.sized.sample.table_of_sized_sample.Goals as goal

pub returns : goal.returns
returns g c =
    let options = c.args.options.now in let totals = c.args.totals in let n = non_zero_usize_get totals.one_in in
    let curve = c.args.curve.now in let rows = c.in_ok-rows.rows.items in
    let table = map non_zero_usize_get c.in_ok-table.table.capacities.items in let marked = c.in_ok-table.table.knees.items in
    let whole : totals.size / c.get.result ≡ totals.size / n = ap (λ k. totals.size / k) c.get.ensures.value in
    ok_map c.sized_table_of.result
    (λ text t. record {
      table = table;
      marked = marked;
      shown = rows;
      usual = subst (λ w. IsUsualOn curve w table marked) whole c.in_ok-table.ensures;
      rowed = subst (λ cs. AreSampledRows curve c.args.floors.now options n totals.requests totals.size cs rows)
          (ap (map non_zero_usize_get) c.deref.ensures.value) c.in_ok-rows.ensures;
      is = t ∙ ap (sized_table_text c.args.json options.floor totals.requests totals.size c.deref-4.result.now) c.deref-3.ensures.value
          ∙ ap (λ ks. sized_table_text c.args.json options.floor totals.requests totals.size ks rows)
          (c.deref-4.ensures.value ∙ c.in_ok-knees.ensures ∙ ap (map (times n (2 ^ 64 - 1))) c.deref-2.ensures.value);
    })
    c.sized_table_of.ensures
