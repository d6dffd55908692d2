use Rattle.std.proofs.Common.{◌-◌}
use Rattle.clru_report.proofs.faithful.+add_up_to.Given as goal

abbrev pub decreases-add_up_to : goal.decreases-add_up_to
decreases-add_up_to g l = l.b - l.a
