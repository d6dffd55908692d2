use Rattle.std.proofs.Common.{◌/◌, false, ap, ◌∙◌, map, subst}
use Rattle.std.specs.Int.NonZero.{non_zero_usize_get}
use Rattle.std.specs.Prelude.{bytes_eq}
use Rattle.clru_text.proofs.ResultLemmas.{ok_map}
use Rattle.clru_report.specs.Report.{AreRows, capacities_asked}
use Rattle.clru_report.specs.Samples.{numbers_times}
use Rattle.clru_report.proofs.sample.rows_of_sample.Goals as goal

pub returns : goal.returns
returns g c kept floored has many floor =
    let table = map non_zero_usize_get c.args.table.now in let rows = c.in_ok-rows.rows.items in
    ok_map c.rows_times.result
    (λ shown is. (
      rows,
      subst (λ w. AreRows bytes_eq kept false floored (capacities_asked c.args.options.now w kept table) rows)
          (ap (λ k. c.args.requests / k) c.get.ensures.value) (c.in_ok-rows.ensures kept floored has many floor),
      is ∙ ap (map (numbers_times (non_zero_usize_get c.args.one_in) c.args.requests)) c.deref.ensures.value,
    ))
    c.rows_times.ensures
