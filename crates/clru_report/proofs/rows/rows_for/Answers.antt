use Rattle.std.proofs.Common.{◌≡◌, ℕ, List, IfOk, length, map, ap, subst, ◌∙◌}
use Rattle.std.specs.Int.NonZero.{non_zero_usize_get}
use Rattle.clru_curve.specs.Curves.{misses_at}
use Rattle.clru_report.specs.Capacities.{capacities_of}
use Rattle.clru_report.specs.PlainRows.{ArePlainRows}
use Rattle.clru_report.proofs.CapacityLemmas.{capacities-alike}
use Rattle.clru_report.proofs.rows.rows_for.Goals as goal

pub returns : goal.returns
returns g c m keys has many =
    let asked = c.args.options.now.capacities in let curve = c.args.curve.now in
    let table = map non_zero_usize_get c.args.table.now in
    let of_curve = λ (ns : List ℕ). capacities_of asked (misses_at ns) c.args.whole (length ns) table in
    let of_keys = λ (d : ℕ). capacities_of asked m c.args.whole d table in
    let taken : map non_zero_usize_get c.deref.result.now ≡ of_curve c.as_slice.result.now =
    ap (map non_zero_usize_get) c.deref.ensures.value ∙ c.in_ok-capacities.ensures in
    let chosen = taken ∙ ap of_curve c.as_slice.ensures
    ∙ capacities-alike (misses_at curve) m has asked c.args.whole (length curve) table ∙ ap of_keys many in
    subst (λ cs. IfOk c.rows_at.result (λ rows. ArePlainRows m cs rows.items)) chosen (c.rows_at.ensures m has)
