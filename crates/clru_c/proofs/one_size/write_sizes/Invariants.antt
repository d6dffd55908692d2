use Rattle.std.proofs.Common.{◌≡◌, ◌++◌, drop, map, take}
use Rattle.clru_c.specs.OneSize.{size_in}
use Rattle.clru_c.proofs.one_size.write_sizes.Given as goal

abbrev pub invariant-loop-index : goal.invariant-loop-index
invariant-loop-index g l = l.sizes ≡ map (size_in l.greatest) (take l.index l.keys) ++ drop l.index l.fn.sizes
