use Rattle.std.proofs.Common.{◌≡◌}
use Rattle.clru_report.specs.JoinedCurves.{joined_up_to}
use Rattle.clru_report.proofs.parts.joined_curve.Given as goal

abbrev pub invariant-loop-index : goal.invariant-loop-index
invariant-loop-index g l = l.curve.items ≡ joined_up_to l.one l.between l.two l.index
