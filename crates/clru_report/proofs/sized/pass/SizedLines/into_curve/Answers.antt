use Rattle.std.proofs.Common.{subst}
use Rattle.clru_text.specs.Samples.{kept_of}
use Rattle.clru_report.specs.Passes.{AreFloorsFor}
use Rattle.clru_report.proofs.TakenLines.{curve_taken}
use Rattle.clru_report.proofs.sized.pass.SizedLines.into_curve.Goals as goal

pub returns-clause-curve : goal.returns-clause-curve
returns-clause-curve g c floored n lines has =
    let taken = has.taken in (
      curve_taken floored (kept_of n lines) c.args.self.pass c.args.self.reuses taken c.into_curve.result c.into_curve.ensures,
      subst (λ ls. AreFloorsFor floored ls c.in_ok-floors.floors) taken.shown (c.in_ok-floors.ensures floored taken.past taken.floored),
    )
