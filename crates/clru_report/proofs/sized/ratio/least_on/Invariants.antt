use Rattle.clru_report.proofs.LeastSizes.{IsPassed}
use Rattle.clru_report.proofs.sized.ratio.least_on.Given as goal

abbrev pub invariant-loop-index : goal.invariant-loop-index
invariant-loop-index g l = IsPassed l.ratio.number l.whole l.bytes l.curve l.last l.index
