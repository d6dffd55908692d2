use Rattle.std.proofs.Common.{◌≡◌, ◌∙◌, map, string_bytes, sym, ap, subst, length}
use Rattle.std.specs.Int.NonZero.{non_zero_usize_get}
use Rattle.std.specs.Prelude.{bytes_eq, reverse}
use Rattle.clru_curve.specs.Curves.{HasMissesOf}
use Rattle.clru_model.specs.Requests.{distinct}
use Rattle.clru_text.specs.Lines.{lines_of}
use Rattle.clru_text.proofs.ResultLemmas.{ok_map}
use Rattle.clru_text.proofs.Samples.{all_kept}
use Rattle.clru_report.specs.Passes.{wants_floor, wants_least}
use Rattle.clru_report.specs.Report.{AreRows, capacities_asked, misses_of}
use Rattle.clru_report.proofs.Forms.{form_of_all}
use Rattle.clru_report.proofs.report.text_of_all.Goals as goal

pub returns : goal.returns
returns g c log of foreseen floored =
    let options = c.args.options.now in let lines = lines_of log in let curve = c.args.curve.now in let whole = all_kept lines in
    let has = subst (λ ls. HasMissesOf bytes_eq ls curve) whole of.misses in
    let kinds = subst (λ ls. length curve ≡ distinct bytes_eq (reverse ls)) whole of.distinct_keys in
    let many = distinct bytes_eq (reverse lines) in
    let table = map non_zero_usize_get c.in_ok-table.table.capacities.items in
    let are = AreRows bytes_eq lines (wants_least options) (wants_floor options) in
    let rows = c.in_ok-rows.rows.items in
    let found = subst (λ cs. are (capacities_asked options c.args.requests lines cs) rows) (ap (map non_zero_usize_get) c.deref.ensures.value)
    (c.in_ok-rows.ensures lines (wants_least options) (wants_floor options) has kinds foreseen floored) in
    let rowed = subst (are (capacities_asked options (length lines) lines table)) (sym c.deref-2.ensures.value)
    (subst (λ n. are (capacities_asked options n lines table) rows) of.counted found) in
    ok_map c.text_by_keys.result
    (λ text made. form_of_all options log _ table c.deref-3.result.now c.deref-2.result.now (string_bytes text)
    (c.in_ok-table.ensures.table (misses_of lines) many has kinds)
    (c.deref-3.ensures.value ∙ c.in_ok-table.ensures.knees (misses_of lines) many has kinds) of.counted options.form
    made rowed (c.distinct.ensures ∙ kinds) of.in_bytes)
    c.text_by_keys.ensures
