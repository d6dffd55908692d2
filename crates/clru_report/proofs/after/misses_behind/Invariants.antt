use Rattle.std.proofs.Common.{◌≡◌, map}
use Rattle.std.specs.List.{range_with_len}
use Rattle.clru_report.proofs.AfterLemmas.{left_at}
use Rattle.clru_report.proofs.after.misses_behind.Given as goal

abbrev pub invariant-loop-index : goal.invariant-loop-index
invariant-loop-index g l = l.misses.items ≡ map (left_at l.curve l.head) (range_with_len 0 l.index)
