use Rattle.std.proofs.Common.{◌≡◌, ◌+◌}
use Rattle.std.specs.List.{sum_by}
use Rattle.clru_uses.proofs.walks.total.Given as goal

abbrev pub invariant-loop-size : goal.invariant-loop-size
invariant-loop-size l = l.total + sum_by (λ e. e.1) l.size-iterator ≡ sum_by (λ e. e.1) l.sizes.entries
