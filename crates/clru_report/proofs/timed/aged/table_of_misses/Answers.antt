use Rattle.std.proofs.Common.{◌≡◌, false, [], map, ap, sym, subst, ◌∙◌}
use Rattle.std.specs.Int.NonZero.{non_zero_usize_get}
use Rattle.clru_text.proofs.ResultLemmas.{ok_map}
use Rattle.clru_report.specs.PlainRows.{AreNumbersAt, ArePlainRows}
use Rattle.clru_report.specs.Samples.{numbers_of, numbers_times}
use Rattle.clru_report.specs.Tables.{table_text}
use Rattle.clru_report.proofs.timed.aged.table_of_misses.Goals as goal

pub returns : goal.returns
returns g c m are =
    let options = c.args.options.now in let all = c.args.requests in let n = non_zero_usize_get c.args.one_in in
    let items = c.in_ok-rows.rows.items in
    let chosen = ap (map non_zero_usize_get) c.deref.ensures.value ∙ c.in_ok-capacities.ensures in
    let rows = subst (λ cs. ArePlainRows m cs items) chosen
    (c.in_ok-rows.ensures m (subst (λ cs. AreNumbersAt m cs c.args.misses.now) (sym chosen) are)) in
    let told = c.in_ok-shown.ensures ∙ ap (map (numbers_times n all)) c.deref-2.ensures.value in
    let shown = subst (λ rs. map numbers_of rs ≡ map (numbers_times n all) items) (sym c.deref-3.ensures.value) told in
    ok_map c.table_of.result
    (λ text t. (
      items,
      c.deref-3.result.now,
      rows,
      shown,
      t ∙ ap (λ json. table_text json false options.floor all [] c.deref-3.result.now) c.is_json-json.ensures,
    ))
    c.table_of.ensures
