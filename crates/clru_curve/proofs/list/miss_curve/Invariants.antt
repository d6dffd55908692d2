use Rattle.std.proofs.Common.{length, ◌-◌, ◌≡◌, ◌≤◌, reverse, take}
use Rattle.clru_curve.specs.Ahead.{ArePlaced}
use Rattle.clru_curve.specs.PositionPasses.{IsPositionPass}
use Rattle.clru_curve.specs.Seen.{timeless}
use Rattle.clru_curve.specs.SizedCurves.{size_of_all}
use Rattle.clru_curve.proofs.list.miss_curve.Given as goal

abbrev pub invariant-loop-first : goal.invariant-loop-first
invariant-loop-first g l = record {
  within : l.first ≤ length l.keys;
  placed : ArePlaced g.K.PartialEq.eq (reverse (take l.first l.keys)) l.positions.entries;
  size : l.size ≡ size_of_all (λ x. 0) (take l.first l.keys);
  taken : IsPositionPass g.K.PartialEq.eq 0 (timeless (reverse (take l.first l.keys))) l.pass;
  room : length l.ahead ≡ 64;
}

abbrev pub invariant-loop-at : goal.invariant-loop-at
invariant-loop-at g l = record {
  first : l.first ≤ l.at;
  end : l.at ≤ l.end;
  taken : IsPositionPass g.K.PartialEq.eq 0 (timeless (reverse (take l.at l.keys))) l.pass;
}

-- proposed from the loop's first test
abbrev pub decreases-loop-first : goal.decreases-loop-first
decreases-loop-first g l = length l.keys - l.first

abbrev pub decreases-loop-at : goal.decreases-loop-at
decreases-loop-at g l = l.end - l.at
