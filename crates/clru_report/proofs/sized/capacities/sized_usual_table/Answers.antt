use Rattle.std.proofs.Common.{◌≡◌, ◌+◌, map, ap, subst, ◌∙◌}
use Rattle.std.specs.Int.NonZero.{non_zero_usize_get}
use Rattle.clru_curve.specs.SizedCurves.{missed_size_within}
use Rattle.clru_text.proofs.ResultLemmas.{ok_both}
use Rattle.clru_report.specs.Capacities.{usual_from}
use Rattle.clru_report.specs.Faithful.{AreWithAdded}
use Rattle.clru_report.proofs.FaithfulTables.{faithful}
use Rattle.clru_report.proofs.sized.capacities.sized_usual_table.Goals as goal

pub returns : goal.returns
returns g c =
    let curve = c.args.curve.now in let m = missed_size_within curve in let all = usual_from (1 + curve.greatest_weight) curve.distinct_size in
    let capacities : map non_zero_usize_get c.deref.result.now ≡ all =
    ap (map non_zero_usize_get) c.deref.ensures.value ∙ c.in_ok-usual.ensures
    ∙ ap (λ n. usual_from n c.distinct_size.result) c.first_capacity.ensures
    ∙ ap (usual_from (1 + curve.greatest_weight)) c.distinct_size.ensures in
    ok_both c.table_with_knees.result
    (λ t is marks. let table = map non_zero_usize_get t.capacities.items in
    record {
      faithful = faithful m c.args.whole all table (subst (λ cs. AreWithAdded m c.args.whole cs table) capacities is);
      marks = marks;
    })
    c.table_with_knees.ensures.table c.table_with_knees.ensures.knees
