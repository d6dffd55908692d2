use Rattle.std.proofs.Common.{map}
use Rattle.std.specs.Int.NonZero.{non_zero_usize_get}
use Rattle.clru_report.proofs.Falls.{IsChosen}
use Rattle.clru_report.proofs.sized.capacities.each_fall_by_size.Given as goal

abbrev pub invariant-loop-step : goal.invariant-loop-step
invariant-loop-step g l = IsChosen l.curve l.last l.step-index (map non_zero_usize_get l.chosen.items)
