use Rattle.std.proofs.Common.{◌≡◌, ◌≤◌, length, drop, reverse}
use Rattle.clru_model.specs.Entries.{size_of, weight_of}
use Rattle.clru_model.proofs.Fitting.{IsTooLongFit}
use Rattle.clru_linked_map.specs.LinkedMap.{with_entries}
use Rattle.clru.specs.Drops.{HandsOutTo}
use Rattle.clru.proofs.cache.room.shrink.Given as goal

abbrev pub invariant-loop-total : goal.invariant-loop-total
invariant-loop-total g l = record {
  same : l.map ≡ with_entries l.fn.map l.map.entries;
  weighs : l.total ≡ weight_of (g.W.WeightScale.weight l.scale) l.map.entries;
  fits : size_of (g.W.WeightScale.weight l.scale) l.map.entries ≤ l.fn.map.capacity;
  long : IsTooLongFit (g.W.WeightScale.weight l.scale) l.room l.fn.map.entries l.map.entries;
  handed : HandsOutTo g.F.FnMut l.fn.on_drop (reverse (drop (length l.map.entries) l.fn.map.entries)) l.on_drop;
}

abbrev pub decreases-loop-total : goal.decreases-loop-total
decreases-loop-total g l = length l.map.entries
