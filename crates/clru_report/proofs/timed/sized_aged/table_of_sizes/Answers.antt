use Rattle.std.proofs.Common.{◌≡◌, nat_le, [], map, ap, sym, subst, ◌∙◌, rules}
use Rattle.std.specs.Int.NonZero.{non_zero_usize_get}
use Rattle.std.specs.List.{filter}
use Rattle.std.proofs.lemmas.Fn.{filter_same}
use Rattle.clru_text.proofs.ResultLemmas.{ok_map}
use Rattle.clru_report.specs.Capacities.{aged_capacities}
use Rattle.clru_report.specs.PlainRows.{AreNumbersAt}
use Rattle.clru_report.specs.Samples.{sized_numbers_of, sized_numbers_times}
use Rattle.clru_report.specs.SizedTables.{capacity_of_sized_row, sized_table_text}
use Rattle.clru_report.specs.SizedTimed.{ArePlainSizedRows}
use Rattle.clru_report.proofs.SizedTimedForms.{plain_sized_from}
use Rattle.clru_report.proofs.timed.sized_aged.table_of_sizes.Goals as goal

pub returns : goal.returns
returns g c m s are missed =
    let options = c.args.options.now in let t = c.args.totals in let n = non_zero_usize_get t.one_in in let first = c.args.first in
    let rows = c.in_ok-rows.rows.items in let items = c.retain.new.self.items in let cs = aged_capacities options.capacities c.args.together in
    let chosen = ap (map non_zero_usize_get) c.deref.ensures.value ∙ c.in_ok-capacities.ensures in
    let kept : items ≡ filter (λ row. nat_le first (capacity_of_sized_row row)) rows =
    filter_same _ (λ row. nat_le first (capacity_of_sized_row row)) _ (λ x b f' k. search rules) _ _ c.retain.ensures.filtered in
    let all = subst (λ ks. ArePlainSizedRows m s ks rows) chosen (c.in_ok-rows.ensures m s
    (subst (λ ks. AreNumbersAt m ks c.args.misses.now) (sym chosen) are)
    (subst (λ ks. AreNumbersAt s ks c.args.missed.now) (sym chosen) missed)) in
    let plain = subst (ArePlainSizedRows m s (filter (λ k. nat_le first k) cs)) (sym kept) (plain_sized_from m s first cs rows all) in
    let told = c.in_ok-shown.ensures ∙ ap (map (sized_numbers_times n t.requests t.size)) c.deref-2.ensures.value in
    let shown = subst (λ rs. map sized_numbers_of rs ≡ map (sized_numbers_times n t.requests t.size) items) (sym c.deref-3.ensures.value) told in
    ok_map c.sized_table_of.result
    (λ text e. (
      items,
      c.deref-3.result.now,
      plain,
      shown,
      e ∙ ap (λ json. sized_table_text json options.floor t.requests t.size [] c.deref-3.result.now) c.is_json-json.ensures,
    ))
    c.sized_table_of.ensures
