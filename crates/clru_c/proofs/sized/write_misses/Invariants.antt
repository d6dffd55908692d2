use Rattle.std.proofs.Common.{◌≡◌, length, slice_index}
use Rattle.clru_curve.specs.SizedCurves.{misses_within, missed_size_within}
use Rattle.clru_c.specs.Arrays.{AreBelow}
use Rattle.clru_c.proofs.sized.write_misses.Given as goal

abbrev pub invariant-loop-index : goal.invariant-loop-index
invariant-loop-index g l = record {
  many : length l.missed ≡ length l.fn.missed;
  many_lost : length l.lost ≡ length l.fn.lost;
  misses : AreBelow (λ i m. m ≡ misses_within l.curve (slice_index l.capacities i)) l.missed l.index;
  sizes : AreBelow (λ i m. m ≡ missed_size_within l.curve (slice_index l.capacities i)) l.lost l.index;
}
