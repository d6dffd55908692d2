use Rattle.std.proofs.Common.{ℕ, ◌<◌, ◌≤◌, get_or}
use Rattle.clru_curve.proofs.fetches.narrow_for.Given as goal

abbrev pub invariant-loop-index : goal.invariant-loop-index
invariant-loop-index l = (i j : ℕ) → i ≤ j → j < l.index → get_or l.capacities i 0 ≤ get_or l.capacities j 0
