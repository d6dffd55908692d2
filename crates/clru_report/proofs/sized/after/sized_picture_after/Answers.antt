use Rattle.std.proofs.Common.{false, sym, subst}
use Rattle.clru_text.specs.Lines.{lines_of}
use Rattle.clru_report.specs.SizedAfter.{IsSizedTableAfter}
use Rattle.clru_report.proofs.sized.after.sized_picture_after.Goals as goal

pub returns-in-Ok-picture_behind-clause-picture : goal.returns-in-Ok-picture_behind-clause-picture
returns-in-Ok-picture_behind-clause-picture g c n input of =
    let made = c.in-Ok.ensures.table n input of in (
      made.0,
      (
        c.deref-2.result.now,
        subst (IsSizedTableAfter n (lines_of input) false c.args.options.now) (sym c.deref-2.ensures) made.1,
        c.in-Ok-picture_behind.ensures,
      ),
    )
