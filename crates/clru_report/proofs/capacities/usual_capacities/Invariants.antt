use Rattle.std.proofs.Common.{◌≡◌, map, nat_lt}
use Rattle.std.specs.Int.NonZero.{non_zero_usize_get}
use Rattle.std.specs.List.{filter, range_with_len}
use Rattle.clru_text.specs.RoundNumbers.{round_number}
use Rattle.clru_report.proofs.capacities.usual_capacities.Given as goal

abbrev pub invariant-loop-index : goal.invariant-loop-index
invariant-loop-index g l =
    map non_zero_usize_get l.chosen.items ≡ filter (λ c. nat_lt c l.distinct) (map round_number (range_with_len 0 l.index))
