use Rattle.std.proofs.Common.{false, None, Some, map, sym, subst}
use Rattle.std.specs.Int.NonZero.{non_zero_usize_get}
use Rattle.std.specs.Prelude.{bytes_eq, reverse}
use Rattle.clru_model.specs.Requests.{distinct}
use Rattle.clru_text.proofs.ResultLemmas.{ok_map}
use Rattle.clru_report.specs.Passes.{IsFloorFor}
use Rattle.clru_report.specs.Report.{AreRows, capacities_asked, misses_of}
use Rattle.clru_report.proofs.rows.rows_and_floor.Goals as goal

pub returns-in-Some : goal.returns-in-Some
returns-in-Some g c lines floored has many of =
    let capacities = capacities_asked c.args.options.now c.args.whole lines (map non_zero_usize_get c.args.table.now) in
    let given : IsFloorFor floored lines (Some c.in-Some.floor) = subst (IsFloorFor floored lines) c.in-Some.is of in
    let rows = subst (AreRows bytes_eq lines false false capacities) (sym c.deref.ensures.value) (c.in_ok-rows.ensures (misses_of lines) (distinct bytes_eq (reverse lines)) has many) in
    ok_map c.rows_with_floor.result
    (λ found is. subst (λ b. AreRows bytes_eq lines false b capacities found.items) (sym given.0) is)
    (c.rows_with_floor.ensures lines capacities given.1 rows)

pub returns-in-None : goal.returns-in-None
returns-in-None g c lines floored has many of =
    let none : IsFloorFor floored lines None = subst (IsFloorFor floored lines) c.in-None.is of in
    subst (λ b. AreRows bytes_eq lines false b (capacities_asked c.args.options.now c.args.whole lines (map non_zero_usize_get c.args.table.now)) c.in_ok-rows.rows.items) (sym none)
    (c.in_ok-rows.ensures (misses_of lines) (distinct bytes_eq (reverse lines)) has many)
