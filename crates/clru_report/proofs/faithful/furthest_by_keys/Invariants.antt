use Rattle.clru_curve.specs.Curves.{misses_at}
use Rattle.clru_report.specs.Faithful.{off_at}
use Rattle.clru_report.specs.Scans.{IsGreatestOf}
use Rattle.clru_report.proofs.faithful.furthest_by_keys.Given as goal

abbrev pub invariant-loop-capacity : goal.invariant-loop-capacity
invariant-loop-capacity l = IsGreatestOf (off_at (misses_at l.curve) l.a l.b) l.a l.b l.capacity l.best l.most
