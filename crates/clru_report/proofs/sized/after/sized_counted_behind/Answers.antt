use Rattle.std.proofs.Common.{◌≡◌, ◌+◌, ◌≤◌, None, map, ap, sym, subst, ◌∙◌}
use Rattle.std.specs.List.{AllByRecursion}
use Rattle.std.specs.Int.NonZero.{non_zero_usize_get}
use Rattle.clru_report.specs.Capacities.{usual_from}
use Rattle.clru_report.specs.Passes.{AreRowsOf, IsOfCapacities}
use Rattle.clru_report.specs.SizedAfterPasses.{AreRowsLeft, capacities_left, missed_left, misses_left}
use Rattle.clru_report.proofs.CapacityLemmas.{usual_high}
use Rattle.clru_report.proofs.FaithfulTables.{table_from}
use Rattle.clru_report.proofs.SizedAfterLemmas.{rows_fit, too_small}
use Rattle.clru_report.proofs.sized.after.sized_counted_behind.Goals as goal

pub returns-in-Err-clause-refused : goal.returns-in-Err-clause-refused
returns-in-Err-clause-refused g c of =
    let curve = c.args.curve.now in let head = c.args.head.now in let asked = c.args.options.now.capacities in
    let table = map non_zero_usize_get c.in-Ok.table.capacities.items in
    let chosen : map non_zero_usize_get c.deref-2.result.now ≡ capacities_left curve head asked c.args.totals.requests c.args.totals.size table =
    ap (map non_zero_usize_get) c.deref-2.ensures.value ∙ c.in-Ok-capacities_behind.ensures
    ∙ ap (λ cs. capacities_left curve head asked c.args.totals.requests c.args.totals.size (map non_zero_usize_get cs)) c.deref.ensures.value in
    let high : AllByRecursion (λ k. 1 + curve.greatest_weight ≤ k) table =
    table_from (missed_left curve head) c.args.totals.size (1 + curve.greatest_weight)
    (usual_from (1 + curve.greatest_weight) curve.distinct_size) table c.in-Ok.ensures.faithful.added
    (usual_high (1 + curve.greatest_weight) curve.distinct_size) in
    too_small curve asked (misses_left curve head) (missed_left curve head) c.args.totals.requests c.args.totals.size table c.in-Err.fault high
    (subst (IsOfCapacities curve c.in-Err.fault) chosen c.in-Err.ensures.refused) of

pub returns-clause-counted : goal.returns-clause-counted
returns-clause-counted g c =
    let curve = c.args.curve.now in let head = c.args.head.now in let asked = c.args.options.now.capacities in
    let table = map non_zero_usize_get c.in-Ok.table.capacities.items in let at = map non_zero_usize_get c.deref-2.result.now in
    let chosen : at ≡ capacities_left curve head asked c.args.totals.requests c.args.totals.size table =
    ap (map non_zero_usize_get) c.deref-2.ensures.value ∙ c.in-Ok-capacities_behind.ensures
    ∙ ap (λ cs. capacities_left curve head asked c.args.totals.requests c.args.totals.size (map non_zero_usize_get cs)) c.deref.ensures.value in
    record {
      table = table;
      usual = c.in-Ok.ensures;
      rowed = subst (λ cs. AreRowsLeft curve head cs c.in-Ok-sized_rows_behind.rows.items) chosen
          (c.in-Ok-sized_rows_behind.ensures curve None at
          (subst (AreRowsOf curve {A = g.row.A.Denot} None at) (sym c.deref-3.ensures.value) c.in-Ok-sized_rows_at.ensures.rows));
    }

pub returns-clause-free : goal.returns-clause-free
returns-clause-free g c =
    let curve = c.args.curve.now in let head = c.args.head.now in let asked = c.args.options.now.capacities in
    let table = map non_zero_usize_get c.in-Ok.table.capacities.items in let rows = c.in-Ok-sized_rows_at.rows.items in
    let chosen : map non_zero_usize_get c.deref-2.result.now ≡ capacities_left curve head asked c.args.totals.requests c.args.totals.size table =
    ap (map non_zero_usize_get) c.deref-2.ensures.value ∙ c.in-Ok-capacities_behind.ensures
    ∙ ap (λ cs. capacities_left curve head asked c.args.totals.requests c.args.totals.size (map non_zero_usize_get cs)) c.deref.ensures.value in
    rows_fit curve asked (misses_left curve head) (missed_left curve head) c.args.totals.requests c.args.totals.size table {B = g.row.A.Denot} None rows
    (subst (λ cs. AreRowsOf curve {A = g.row.A.Denot} None cs rows) chosen c.in-Ok-sized_rows_at.ensures.rows)
