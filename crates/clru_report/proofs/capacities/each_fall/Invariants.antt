use Rattle.std.proofs.Common.{◌≡◌, ◌+◌, map}
use Rattle.std.specs.Int.NonZero.{non_zero_usize_get}
use Rattle.std.specs.List.{filter, range_with_len}
use Rattle.clru_curve.specs.Curves.{misses_at}
use Rattle.clru_report.specs.Capacities.{is_fall}
use Rattle.clru_report.proofs.capacities.each_fall.Given as goal

abbrev pub invariant-loop-index : goal.invariant-loop-index
invariant-loop-index g l =
    map non_zero_usize_get l.chosen.items ≡ filter (is_fall (misses_at l.curve)) (map (λ k. k + 1) (range_with_len 0 l.index))
