use Rattle.std.proofs.Common.{◌≡◌, ◌+◌, length}
use Rattle.std.specs.List.{sum_by}
use Rattle.clru_uses.proofs.walks.total_backwards.Given as goal

abbrev pub invariant-loop-size : goal.invariant-loop-size
invariant-loop-size l = l.sum + sum_by (λ e. e.1) l.walk ≡ sum_by (λ e. e.1) l.sizes.entries

abbrev pub decreases-loop-size : goal.decreases-loop-size
decreases-loop-size l = length l.walk
