use Rattle.std.proofs.Common.{map, ap, ◌∙◌, subst}
use Rattle.std.specs.Int.NonZero.{non_zero_usize_get}
use Rattle.clru_text.proofs.ResultLemmas.{ok_map}
use Rattle.clru_report.specs.Passes.{AreRowsOf}
use Rattle.clru_report.specs.Samples.{sized_numbers_times}
use Rattle.clru_report.proofs.sized.sample.rows_of_sized_sample.Goals as goal

pub returns : goal.returns
returns g c =
    let curve = c.args.curve.now in let rows = c.in-Ok.rows.items in let totals = c.args.totals in
    ok_map c.sized_rows_times.result
    (λ shown t. (
      rows,
      subst (λ ns. AreRowsOf curve c.args.floors.now ns rows)
          (ap (map non_zero_usize_get) c.deref.ensures.value ∙ c.in_ok-capacities.ensures) c.in-Ok.ensures.rows,
      t ∙ ap (map (sized_numbers_times (non_zero_usize_get totals.one_in) totals.requests totals.size)) c.deref-2.ensures.value,
    ))
    c.sized_rows_times.ensures
