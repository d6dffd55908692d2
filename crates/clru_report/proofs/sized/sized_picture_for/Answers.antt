use Rattle.std.proofs.Common.{false, sym, subst}
use Rattle.clru_report.specs.Passes.{IsTableOf}
use Rattle.clru_report.proofs.sized.sized_picture_for.Goals as goal

pub returns-in-Ok-clause-picture : goal.returns-in-Ok-clause-picture
returns-in-Ok-clause-picture g c =
    let drawn = c.in-Ok.ensures in (
      c.deref.result.now,
      subst (IsTableOf c.args.curve.now false c.args.floors.now c.args.options.now.floor c.args.options.now.capacities)
          (sym c.deref.ensures) c.in_ok-table.ensures.table,
      drawn,
    )
