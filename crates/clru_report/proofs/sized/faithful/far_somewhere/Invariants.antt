use Rattle.std.proofs.Common.{◌≡◌, ◌-◌, ◌≤◌, ◌<◌, ℕ}
use Rattle.clru_curve.specs.SizedCurves.{missed_size_within}
use Rattle.clru_report.specs.Faithful.{off_at}
use Rattle.clru_report.proofs.sized.faithful.far_somewhere.Given as goal

-- some capacity lies that far off
abbrev pub invariant-loop-index : goal.invariant-loop-index
invariant-loop-index g l = ((p : ℕ) × (l.a ≤ p) × (p < l.b) × (l.far ≡ off_at (missed_size_within l.curve) l.a l.b p)) × (l.initial.index ≤ l.index)

abbrev pub decreases-loop-index : goal.decreases-loop-index
decreases-loop-index g l = l.to - l.index
