use Rattle.std.proofs.Common.{◌≡◌, length, nat_eq, slice_index}
use Rattle.clru_c.specs.Arrays.{AreBelow, IsLeastOf}
use Rattle.clru_c.proofs.arrays.least_by_room.Given as goal

abbrev pub invariant-loop-index : goal.invariant-loop-index
invariant-loop-index g l = (length l.answers.items ≡ length l.rooms)
    × AreBelow (λ i n. IsLeastOf nat_eq l.keys (slice_index l.rooms i) n) l.answers.items l.index
