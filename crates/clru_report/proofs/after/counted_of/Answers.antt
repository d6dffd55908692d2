use Rattle.std.proofs.Common.{◌≡◌, ℕ, List, false, map, sym, ap, length, ◌∙◌, subst, arith}
use Rattle.std.specs.Int.NonZero.{non_zero_usize_get}
use Rattle.std.specs.List.{range_with_len}
use Rattle.std.specs.Prelude.{bytes_eq, reverse}
use Rattle.clru_curve.specs.Curves.{misses_at}
use Rattle.clru_model.specs.Requests.{distinct}
use Rattle.clru_report.specs.After.{AreRowsBehind, capacities_behind, misses_behind}
use Rattle.clru_report.specs.Capacities.{capacities_of, usual}
use Rattle.clru_report.specs.Faithful.{AreWithAdded, IsFaithful}
use Rattle.clru_report.specs.Knees.{knees}
use Rattle.clru_report.specs.Report.{AreRows, misses_of}
use Rattle.clru_report.proofs.AfterLemmas.{behind_is, left, left_at, long}
use Rattle.clru_report.proofs.CapacityLemmas.{capacities-alike, usual_some}
use Rattle.clru_report.proofs.FaithfulTables.{faithful_alike, knees_alike}
use Rattle.clru_report.proofs.after.counted_of.Goals as goal

pub returns : goal.returns
returns g c n lines whole before counted =
    let curve = c.args.curve.now in let head = c.args.head.now in let asked = c.args.options.now.capacities in
    let kinds = distinct bytes_eq (reverse lines) in let m = misses_behind n lines in
    let ns : List ℕ = left n lines curve head whole before in
    let is : c.in_ok-misses.misses.items ≡ ns =
    c.in_ok-misses.ensures ∙ ap (λ all. map (left_at all head) (range_with_len 0 (length all))) c.as_slice.ensures in
    let alike = behind_is n lines curve head whole before in
    let many : length ns ≡ kinds = long n lines curve head whole before ∙ whole.distinct_keys in
    let of_curve = c.deref.ensures.value ∙ is in
    let count : c.len.result ≡ kinds = omega (arith, c.len.ensures, c.deref.ensures.len, ap length of_curve, many) in
    let usual_are : map non_zero_usize_get c.deref-2.result.now ≡ usual kinds =
    ap (map non_zero_usize_get) c.deref-2.ensures.value ∙ c.in_ok-usual.ensures ∙ ap usual count in
    let table = map non_zero_usize_get c.in_ok-table.table.capacities.items in let all = c.args.requests in
    let made = subst (λ ks. AreWithAdded (misses_at ks) all (usual kinds) table) of_curve
    (subst (λ cs. AreWithAdded (misses_at c.deref.result.now) all cs table) usual_are c.in_ok-table.ensures.table) in
    let faithful = faithful_alike (misses_at ns) m alike all (usual kinds) table (usual_some kinds) made in
    let of_three = c.deref-3.ensures.value ∙ is in
    let chosen : map non_zero_usize_get c.deref-5.result.now ≡ capacities_behind n lines c.args.options.now table =
    ap (map non_zero_usize_get) c.deref-5.ensures.value ∙ c.in_ok-capacities.ensures
    ∙ ap (λ ks. capacities_of asked (misses_at ks) all (length ks) (map non_zero_usize_get c.deref-4.result.now)) of_three
    ∙ ap (λ cs. capacities_of asked (misses_at ns) all (length ns) (map non_zero_usize_get cs)) c.deref-4.ensures.value
    ∙ capacities-alike (misses_at ns) m alike asked all (length ns) table ∙ ap (λ d. capacities_of asked m all d table) many
    ∙ ap (λ w. capacities_of asked m w kinds table) counted in
    let rows = subst (AreRows bytes_eq lines false false (map non_zero_usize_get c.deref-5.result.now)) (sym c.deref-6.ensures.value)
    (c.in_ok-whole.ensures (misses_of lines) whole.misses) in
    let left_over = c.in_ok-rows.ensures n lines (map non_zero_usize_get c.deref-5.result.now) before rows in (
      table,
      subst (λ w. IsFaithful m w (usual kinds) table) counted faithful,
      subst (λ cs. AreRowsBehind n lines cs c.in_ok-rows.rows.items) chosen left_over,
      c.in_ok-table.ensures.knees ∙ ap (λ ks. knees (misses_at ks) all table) of_curve
          ∙ knees_alike (misses_at ns) m alike all (usual kinds) table (usual_some kinds) made ∙ ap (λ w. knees m w table) counted,
    )
