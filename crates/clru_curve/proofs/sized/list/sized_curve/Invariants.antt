use Rattle.std.proofs.Common.{length, ◌-◌, ◌≡◌, ◌^◌, ◌<◌, ◌≤◌, reverse, take}
use Rattle.clru_model.specs.Sizes.{SameWeights}
use Rattle.clru_curve.specs.Ahead.{ArePlaced, HoldsLatest}
use Rattle.clru_curve.specs.Seen.{timeless}
use Rattle.clru_curve.specs.SizedCurves.{size_of_all}
use Rattle.clru_curve.specs.SizedPositionPasses.{IsSizedPositionPass}
use Rattle.clru_curve.proofs.sized.list.sized_curve.Given as goal

abbrev pub invariant-loop-first : goal.invariant-loop-first
invariant-loop-first g l = record {
  within : l.first ≤ length l.keys;
  placed : ArePlaced g.K.PartialEq.eq (reverse (take l.first l.keys)) l.positions.entries;
  size : l.size ≡ size_of_all (λ x. g.W.WeightScale.weight l.scale x tt) (take l.first l.keys);
  fits : size_of_all (λ x. g.W.WeightScale.weight l.scale x tt) (take l.first l.keys) < 2 ^ 64;
  held : HoldsLatest g.K.PartialEq.eq (reverse (take l.first l.keys)) l.pass;
  taken : SameWeights g.K.PartialEq.eq (λ x. g.W.WeightScale.weight l.scale x tt)
      → IsSizedPositionPass g.K.PartialEq.eq (λ x. g.W.WeightScale.weight l.scale x tt) 0 (timeless (reverse (take l.first l.keys))) l.pass;
  room : length l.ahead ≡ 64;
}

-- proposed from the loop's first test
abbrev pub decreases-loop-first : goal.decreases-loop-first
decreases-loop-first g l = length l.keys - l.first
