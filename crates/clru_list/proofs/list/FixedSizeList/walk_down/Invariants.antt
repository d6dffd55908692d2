use Rattle.std.proofs.Common.{◌≡◌, ◌-◌, ◌≤◌, Some, slice_get}
use Rattle.std.specs.Map.{keys_of}
use Rattle.clru_list.proofs.list.FixedSizeList.walk_down.Given as goal

abbrev pub invariant-loop-at : goal.invariant-loop-at
invariant-loop-at g l = record {
  here : slice_get (keys_of l.self.entries) l.at ≡ Some l.place;
  behind : l.index ≤ l.at;
}

abbrev pub decreases-loop-at : goal.decreases-loop-at
decreases-loop-at g l = l.at - l.index
