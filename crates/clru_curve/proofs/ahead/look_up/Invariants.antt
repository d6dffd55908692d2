use Rattle.std.proofs.Common.{length, ◌-◌, ◌≡◌, ◌≤◌, reverse, take}
use Rattle.clru_curve.specs.Ahead.{ArePlaced, AreLatest, HaveWeights}
use Rattle.clru_curve.specs.SizedCurves.{size_of_all}
use Rattle.clru_curve.proofs.ahead.look_up.Given as goal

abbrev pub invariant-loop-at : goal.invariant-loop-at
invariant-loop-at g l = record {
  first : l.first ≤ l.at;
  end : l.at ≤ l.end;
  length : length l.ahead ≡ length l.fn.ahead;
  placed : ArePlaced g.K.PartialEq.eq (reverse (take l.at l.keys)) l.positions.entries;
  builder : l.positions.builder ≡ l.fn.positions.builder;
  size : l.sum ≡ size_of_all (λ x. g.W.WeightScale.weight l.scale x tt) (take l.at l.keys);
  latest : AreLatest g.K.PartialEq.eq l.keys l.first l.at l.ahead;
  weights : HaveWeights (λ x. g.W.WeightScale.weight l.scale x tt) l.keys l.first l.at l.ahead;
}

-- proposed from the loop's first test
abbrev pub decreases-loop-at : goal.decreases-loop-at
decreases-loop-at g l = l.end - l.at
