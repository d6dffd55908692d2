use Rattle.std.proofs.Common.{◌≡◌, map, take}
use Rattle.std.specs.Int.NonZero.{non_zero_usize_get}
use Rattle.clru_report.proofs.timed.aged.numbers_of.Given as goal

abbrev pub invariant-loop-capacity : goal.invariant-loop-capacity
invariant-loop-capacity g l = l.numbers.items ≡ map non_zero_usize_get (take l.capacity-index l.capacities)
