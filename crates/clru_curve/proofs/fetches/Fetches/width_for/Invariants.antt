use Rattle.std.proofs.Common.{◌≤◌}
use Rattle.clru_curve.proofs.fetches.Fetches.width_for.Given as goal

abbrev pub invariant-loop-wide : goal.invariant-loop-wide
invariant-loop-wide g l = l.width ≤ l.wide
