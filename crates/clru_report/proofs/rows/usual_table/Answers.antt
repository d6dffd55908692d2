use Rattle.std.proofs.Common.{◌≡◌, map, ap, subst, ◌∙◌}
use Rattle.std.specs.Int.NonZero.{non_zero_usize_get}
use Rattle.clru_curve.specs.Curves.{misses_at}
use Rattle.clru_text.proofs.ResultLemmas.{ok_both, ok_map}
use Rattle.clru_report.specs.Capacities.{usual}
use Rattle.clru_report.specs.Faithful.{AreWithAdded}
use Rattle.clru_report.specs.Knees.{knees}
use Rattle.clru_report.proofs.CapacityLemmas.{usual_some}
use Rattle.clru_report.proofs.FaithfulTables.{faithful_alike, knees_alike}
use Rattle.clru_report.proofs.rows.usual_table.Goals as goal

pub returns-clause-table : goal.returns-clause-table
returns-clause-table g c m keys has many =
    let curve = c.args.curve.now in let whole = c.args.whole in let all = usual keys in
    let capacities : map non_zero_usize_get c.deref.result.now ≡ all =
    ap (map non_zero_usize_get) c.deref.ensures.value ∙ c.in_ok-usual.ensures ∙ ap usual (c.distinct.ensures ∙ many) in
    ok_map c.table_with_knees.result
    (λ t is. let table = map non_zero_usize_get t.capacities.items in
    faithful_alike (misses_at curve) m has whole all table (usual_some keys)
    (subst (λ ns. AreWithAdded (misses_at ns) whole all table) c.as_slice.ensures
    (subst (λ cs. AreWithAdded (misses_at c.as_slice.result.now) whole cs table) capacities is)))
    c.table_with_knees.ensures.table

pub returns-clause-knees : goal.returns-clause-knees
returns-clause-knees g c m keys has many =
    let curve = c.args.curve.now in let whole = c.args.whole in let all = usual keys in
    let capacities : map non_zero_usize_get c.deref.result.now ≡ all =
    ap (map non_zero_usize_get) c.deref.ensures.value ∙ c.in_ok-usual.ensures ∙ ap usual (c.distinct.ensures ∙ many) in
    ok_both c.table_with_knees.result
    (λ t is marks. let table = map non_zero_usize_get t.capacities.items in
    marks ∙ ap (λ ns. knees (misses_at ns) whole table) c.as_slice.ensures
    ∙ knees_alike (misses_at curve) m has whole all table (usual_some keys)
    (subst (λ ns. AreWithAdded (misses_at ns) whole all table) c.as_slice.ensures
    (subst (λ cs. AreWithAdded (misses_at c.as_slice.result.now) whole cs table) capacities is)))
    c.table_with_knees.ensures.table c.table_with_knees.ensures.knees
