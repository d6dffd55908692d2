use Rattle.std.proofs.Common.{◌<◌, ℕ, slice_index}
use Rattle.clru_c.proofs.sized.has_within.Given as goal

abbrev pub invariant-loop-index : goal.invariant-loop-index
invariant-loop-index l = (i : ℕ) → i < l.index → l.weight < slice_index l.capacities i
