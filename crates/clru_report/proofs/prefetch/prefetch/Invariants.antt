use Rattle.std.proofs.Common.{◌≡◌, ◌-◌, ◌≤◌}
use Rattle.clru_report.proofs.prefetch.prefetch.Given as goal

abbrev pub invariant-lines : goal.invariant-lines
invariant-lines g l = (l.map ≡ l.fn.map) × (l.count ≤ l.most)

abbrev pub decreases-lines : goal.decreases-lines
decreases-lines g l = l.most - l.count
