use Rattle.std.proofs.Common.{◌≡◌, [], map, take}
use Rattle.std.specs.Int.NonZero.{non_zero_usize_get}
use Rattle.std.specs.List.{filter}
use Rattle.clru_report.specs.Ratios.{is_enough}
use Rattle.clru_report.specs.SizedAfterPasses.{missing_left}
use Rattle.clru_report.proofs.sized.ratio.least_behind.Given as goal

-- none of the falls so far is enough
abbrev pub invariant-loop-capacity : goal.invariant-loop-capacity
invariant-loop-capacity g l = (l.chosen.items ≡ []) × (filter (λ c. is_enough l.ratio.number l.whole
    (missing_left l.curve l.head l.bytes l.curve.distinct_size) (missing_left l.curve l.head l.bytes c))
    (map non_zero_usize_get (take l.capacity-index l.capacity-items)) ≡ [])
