use Rattle.std.proofs.Common.{◌≡◌, ◌*◌, ◌/◌, ◌-◌, ◌≤◌, length, take}
use Rattle.clru_curve.specs.LatestSizes.{sizes_from}
use Rattle.clru_curve.specs.Tree.{IsCounted}
use Rattle.clru_curve.proofs.sized.sizes.sum_anew.Given as goal

abbrev pub invariant-loop-at : goal.invariant-loop-at
invariant-loop-at g l = record {
  within : l.at ≤ length l.sizes.items / 8 * 8;
  same : length l.nodes ≡ length l.fn.nodes;
  counted : IsCounted (λ j. sizes_from (take l.at l.sizes.items) (8 * j)) l.nodes;
}

abbrev pub decreases-loop-at : goal.decreases-loop-at
decreases-loop-at g l = length l.sizes.items - l.at
