use Rattle.std.proofs.Common.{◌≡◌, length, slice_index}
use Rattle.clru_least.specs.FloorNumbers.{floor_at}
use Rattle.clru_c.specs.Arrays.{AreBelow}
use Rattle.clru_c.proofs.floors.write_floors.Given as goal

abbrev pub invariant-loop-index : goal.invariant-loop-index
invariant-loop-index g l = record {
  many : length l.floors ≡ length l.fn.floors;
  floors : AreBelow (λ i n. n ≡ floor_at l.bound (slice_index l.rooms i)) l.floors l.index;
}
