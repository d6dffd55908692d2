use Rattle.std.proofs.Common.{◌≡◌, ℕ, List, ◌-◌, ◌/◌, ◌^◌, false, map, ap, ◌∙◌, string_bytes, sym, subst}
use Rattle.std.specs.Int.NonZero.{non_zero_usize_get}
use Rattle.std.specs.Prelude.{bytes_eq, reverse}
use Rattle.clru_model.specs.Requests.{distinct}
use Rattle.clru_text.specs.Samples.{times}
use Rattle.clru_text.proofs.ResultLemmas.{ok_map}
use Rattle.clru_report.specs.Knees.{knees}
use Rattle.clru_report.specs.Passes.{IsTextByKeys, wants_floor}
use Rattle.clru_report.specs.Report.{AreRowsOfSample, IsUsualTable, knees_of_sample, misses_of}
use Rattle.clru_report.specs.declared.text.Counts.{Counts}
use Rattle.clru_report.proofs.Forms.{form_of_sample}
use Rattle.clru_report.proofs.sample.text_of_sample.Goals as goal

pub returns : goal.returns
returns g c input kept has many floor in_bytes =
    let options = c.args.options.now in let n = non_zero_usize_get c.args.one_in in let all = c.args.requests in
    let table = map non_zero_usize_get c.in_ok-table.table.capacities.items in let most = 2 ^ 64 - 1 in
    let whole : all / c.get.result ≡ all / n = ap (λ k. all / k) c.get.ensures.value in
    let usual = subst (λ w. IsUsualTable w kept table) whole (c.in_ok-table.ensures.table (misses_of kept) (distinct bytes_eq (reverse kept)) has many) in
    let marked : c.in_ok-knees.knees.items ≡ knees_of_sample n all kept table = c.in_ok-knees.ensures
    ∙ ap (map (times n most)) (c.deref-2.ensures.value ∙ c.in_ok-table.ensures.knees (misses_of kept) (distinct bytes_eq (reverse kept)) has many
    ∙ ap (λ w. knees (misses_of kept) w table) whole) in
    let rows = subst (λ cs. AreRowsOfSample options (wants_floor options) n all kept cs c.in_ok-rows.rows.items)
    (ap (map non_zero_usize_get) c.deref.ensures.value) (c.in_ok-rows.ensures kept (wants_floor options) has many floor) in
    let shown = subst (AreRowsOfSample options (wants_floor options) n all kept table) (sym c.deref-3.ensures.value) rows in
    let counts : Counts = record { one_in = c.args.one_in; requests = all; distinct = c.times-distinct.result; bytes = c.args.bytes } in
    let shows = λ (text ks : List ℕ). IsTextByKeys options.form false options.floor counts ks c.deref-3.result.now text in
    ok_map c.text_by_keys.result
    (λ text t. form_of_sample options input n kept options.form counts table c.deref-3.result.now (string_bytes text) usual
    (subst (shows (string_bytes text)) (c.deref-4.ensures.value ∙ marked) t) shown
    (c.times-distinct.ensures ∙ ap (times n most) (c.distinct.ensures ∙ many)) in_bytes)
    c.text_by_keys.ensures
