use Rattle.std.proofs.Common.{◌≡◌, length, take, vec_len, vec_capacity}
use Rattle.std.specs.List.{zip}
use Rattle.clru_c.proofs.sized.objects_of.Given as goal

abbrev pub invariant-loop-index : goal.invariant-loop-index
invariant-loop-index g l = record {
  objects : l.objects.items ≡ take l.index (zip l.keys l.sizes);
  many : vec_len l.objects ≡ l.index;
  same_capacity : vec_capacity l.objects ≡ length l.keys;
}
