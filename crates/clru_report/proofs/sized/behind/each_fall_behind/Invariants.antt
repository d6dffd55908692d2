use Rattle.std.proofs.Common.{◌≡◌, map, take}
use Rattle.std.specs.Int.NonZero.{non_zero_usize_get}
use Rattle.std.specs.List.{filter}
use Rattle.clru_report.specs.SizedAfterPasses.{is_fall_left}
use Rattle.clru_report.proofs.sized.behind.each_fall_behind.Given as goal

abbrev pub invariant-loop-capacity : goal.invariant-loop-capacity
invariant-loop-capacity g l = map non_zero_usize_get l.chosen.items
    ≡ filter (is_fall_left l.curve l.head) (map non_zero_usize_get (take l.capacity-index l.capacity-items))
