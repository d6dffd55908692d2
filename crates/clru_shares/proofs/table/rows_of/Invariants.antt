use Rattle.std.proofs.Common.{◌≡◌, map, take}
use Rattle.clru_shares.specs.Passes.{part_of_row, parts_of_shares}
use Rattle.clru_shares.proofs.table.rows_of.Given as goal

abbrev pub invariant-loop-index : goal.invariant-loop-index
invariant-loop-index g l = map part_of_row l.made.items ≡ parts_of_shares (take l.index l.shares) (take l.index l.capacities)
