use Rattle.std.proofs.Common.{◌≡◌, ℕ, take}
use Rattle.std.specs.List.{zip}
use Rattle.clru_c.specs.OneSize.{greatest_of_key, size_in}
use Rattle.clru_c.proofs.one_size.greatest_of.Given as goal

abbrev pub invariant-loop-index : goal.invariant-loop-index
invariant-loop-index g l = (key : ℕ) → size_in l.greatest key ≡ greatest_of_key (take l.index (zip l.keys l.sizes)) key
