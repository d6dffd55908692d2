use Rattle.std.proofs.Common.{◌≤◌, ◌<◌, ◌-◌, ℕ}
use Rattle.clru_curve.specs.SizedCurves.{missed_size_within}
use Rattle.clru_report.specs.Faithful.{off_at}
use Rattle.clru_report.specs.Scans.{IsGreatestOf}
use Rattle.clru_report.proofs.Falls.{span}
use Rattle.clru_report.proofs.OffLines.{raised_at}
use Rattle.clru_report.proofs.sized.faithful.greatest_by_size.Given as goal

-- what was found up to the last step that was looked at, where the first capacity counts as that far off
abbrev pub invariant-loop-index : goal.invariant-loop-index
invariant-loop-index g l = IsGreatestOf (raised_at l.a l.initial.found.1 (off_at (missed_size_within l.curve) l.a l.b)) l.a l.b l.last l.found.0 l.found.1
    × (l.a < l.last) × (l.last < l.b) × ((j : ℕ) → j < l.index → span l.curve j ≤ l.last) × (0 < l.count)

abbrev pub decreases-loop-index : goal.decreases-loop-index
decreases-loop-index g l = l.to - l.index
