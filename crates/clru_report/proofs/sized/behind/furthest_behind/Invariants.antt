use Rattle.std.proofs.Common.{◌≤◌, ◌<◌, ℕ}
use Rattle.clru_report.specs.Faithful.{off_at}
use Rattle.clru_report.specs.Scans.{IsGreatestOf}
use Rattle.clru_report.specs.SizedAfterPasses.{missed_left}
use Rattle.clru_report.proofs.Falls.{span}
use Rattle.clru_report.proofs.sized.behind.furthest_behind.Given as goal

-- what was found up to the last step that was looked at
abbrev pub invariant-loop-index : goal.invariant-loop-index
invariant-loop-index g l = IsGreatestOf (off_at (missed_left l.curve l.head) l.a l.b) l.a l.b l.last l.best l.most
    × (l.a ≤ l.last) × (l.last < l.b) × ((j : ℕ) → j < l.index → span l.curve j ≤ l.last)
