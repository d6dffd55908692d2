use Rattle.std.proofs.Common.{◌-◌, ℕ, ◌≤◌, reverse, take}
use Rattle.clru_model.specs.Sizes.{SameWeights}
use Rattle.clru_curve.specs.Ahead.{HaveWeights, HoldsLatest}
use Rattle.clru_curve.specs.Seen.{timeless}
use Rattle.clru_curve.specs.SizedPositionPasses.{IsSizedPositionPass}
use Rattle.clru_curve.proofs.sized.ahead.count.Given as goal

abbrev pub invariant-loop-at : goal.invariant-loop-at
invariant-loop-at g l = record {
  first : l.first ≤ l.at;
  end : l.at ≤ l.end;
  held : HoldsLatest g.K.PartialEq.eq (reverse (take l.at l.keys)) l.pass;
  taken : (w : g.row.K.Denot → ℕ) → SameWeights g.K.PartialEq.eq w → HaveWeights w l.keys l.first l.end l.ahead
      → IsSizedPositionPass g.K.PartialEq.eq w 0 (timeless (reverse (take l.first l.keys))) l.fn.pass
      → IsSizedPositionPass g.K.PartialEq.eq w 0 (timeless (reverse (take l.at l.keys))) l.pass;
}

-- proposed from the loop's first test
abbrev pub decreases-loop-at : goal.decreases-loop-at
decreases-loop-at g l = l.end - l.at
