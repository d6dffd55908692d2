use Rattle.std.proofs.Common.{◌≡◌, length, take}
use Rattle.clru_curve.specs.Latest.{blocks_from}
use Rattle.clru_curve.specs.Tree.{IsCounted}
use Rattle.clru_curve.proofs.latest.count_anew.Given as goal

abbrev pub invariant-loop-at : goal.invariant-loop-at
invariant-loop-at l = record {
  same : length l.nodes ≡ length l.blocks;
  counted : IsCounted (blocks_from (take l.at l.blocks)) l.nodes;
}
