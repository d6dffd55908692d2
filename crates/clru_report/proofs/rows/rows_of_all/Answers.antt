use Rattle.std.proofs.Common.{false, None, Some, map, sym, subst}
use Rattle.std.specs.Int.NonZero.{non_zero_usize_get}
use Rattle.std.specs.Prelude.{bytes_eq}
use Rattle.clru_text.proofs.ResultLemmas.{ok_map}
use Rattle.clru_report.specs.Passes.{IsForeseenFor}
use Rattle.clru_report.specs.Report.{AreRows, capacities_asked}
use Rattle.clru_report.proofs.rows.rows_of_all.Goals as goal

pub returns-in-None : goal.returns-in-None
returns-in-None g c lines least floored has many of floor =
    let none : IsForeseenFor g.row.A.Denot least lines None = subst (IsForeseenFor g.row.A.Denot least lines) c.in-None.is of in
    subst (λ b. AreRows bytes_eq lines b floored (capacities_asked c.args.options.now c.args.whole lines (map non_zero_usize_get c.args.table.now)) c.in_ok-rows.rows.items) (sym none)
    (c.in_ok-rows.ensures lines floored has many floor)

pub returns-in-Some : goal.returns-in-Some
returns-in-Some g c lines least floored has many of floor =
    let capacities = capacities_asked c.args.options.now c.args.whole lines (map non_zero_usize_get c.args.table.now) in
    let given : IsForeseenFor g.row.A.Denot least lines (Some c.in-Some.foresight) =
    subst (IsForeseenFor g.row.A.Denot least lines) c.in-Some.is of in
    let rows = subst (AreRows bytes_eq lines false floored capacities) (sym c.deref.ensures.value)
    (c.in_ok-rows.ensures lines floored has many floor) in
    ok_map c.rows_with_least.result
    (λ found is. subst (λ b. AreRows bytes_eq lines b floored capacities found.items) (sym given.0) is)
    (c.rows_with_least.ensures lines floored capacities given.1 rows)
