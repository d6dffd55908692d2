use Rattle.std.proofs.Common.{◌≡◌, map, take}
use Rattle.std.specs.List.{sum_by}
use Rattle.clru_shares.specs.Passes.{part_of_row}
use Rattle.clru_shares.proofs.table.sums_of.Given as goal

abbrev pub invariant-loop-part : goal.invariant-loop-part
invariant-loop-part g l = record {
  capacity : l.capacity ≡ sum_by (λ p. p.capacity) (map part_of_row (take l.part-index l.parts));
  misses : l.misses ≡ sum_by (λ p. p.misses) (map part_of_row (take l.part-index l.parts));
  missed_size : l.missed_size ≡ sum_by (λ p. p.missed_size) (map part_of_row (take l.part-index l.parts));
}
