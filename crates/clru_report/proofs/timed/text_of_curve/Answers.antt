use Rattle.std.proofs.Common.{◌≡◌, ◌-◌, ◌/◌, ◌^◌, false, map, ap, ◌∙◌, string_bytes, sym, subst}
use Rattle.std.specs.Int.NonZero.{non_zero_usize_get}
use Rattle.clru_text.specs.Samples.{times}
use Rattle.clru_text.proofs.ResultLemmas.{ok_map}
use Rattle.clru_report.specs.Capacities.{capacities_of, usual}
use Rattle.clru_report.specs.Faithful.{IsFaithful}
use Rattle.clru_report.specs.Knees.{knees}
use Rattle.clru_report.specs.Passes.{IsTextByKeys}
use Rattle.clru_report.specs.PlainRows.{ArePlainRows}
use Rattle.clru_report.specs.Samples.{numbers_times}
use Rattle.clru_report.specs.Timed.{AreRowsOn, knees_on}
use Rattle.clru_report.proofs.TimedForms.{form_on}
use Rattle.clru_report.proofs.timed.text_of_curve.Goals as goal

pub returns : goal.returns
returns g c m keys has many kinds =
    let options = c.args.options.now in let counts = c.args.counts in let n = non_zero_usize_get counts.one_in in
    let all = counts.requests in let table = map non_zero_usize_get c.in_ok-table.table.capacities.items in
    let whole : all / c.get.result ≡ all / n = ap (λ k. all / k) c.get.ensures.value in
    let faithful = subst (λ w. IsFaithful m w (usual keys) table) whole (c.in_ok-table.ensures.table m keys has many) in
    let marked : c.in_ok-knees.knees.items ≡ knees_on options m keys n all table = c.in_ok-knees.ensures
    ∙ ap (map (times n (2 ^ 64 - 1))) (c.deref-3.ensures.value ∙ c.in_ok-table.ensures.knees m keys has many ∙ ap (λ w. knees m w table) whole) in
    let rows = subst (λ w. ArePlainRows m (capacities_of options.capacities m w keys table) c.in_ok-rows.rows.items) whole
    (subst (λ t. ArePlainRows m (capacities_of options.capacities m (all / c.get.result) keys t) c.in_ok-rows.rows.items)
    (ap (map non_zero_usize_get) c.deref.ensures.value) (c.in_ok-rows.ensures m keys has many)) in
    let shown : AreRowsOn options m keys n all table c.in_ok-shown.shown.items =
    (c.in_ok-rows.rows.items, rows, c.in_ok-shown.ensures ∙ ap (map (numbers_times n all)) c.deref-2.ensures.value) in
    let given = subst (AreRowsOn options m keys n all table) (sym c.deref-4.ensures.value) shown in
    ok_map c.text_by_keys.result
    (λ text t. form_on options m keys n counts table c.deref-4.result.now (string_bytes text) faithful given kinds options.form
    (subst (λ ks. IsTextByKeys options.form false options.floor counts ks c.deref-4.result.now (string_bytes text))
    (c.deref-5.ensures.value ∙ marked) t))
    c.text_by_keys.ensures
