use Rattle.std.proofs.Common.{◌≡◌, length}
use Rattle.std.specs.Map.Calls.{CalledAtPair, TakesPair}
use Rattle.clru_model.specs.Entries.{weight_of}
use Rattle.clru_list.proofs.Retaining.{from_place}
use Rattle.clru_linked_map.specs.IndexedList.{IsIndexed, KeepsAllButPairs}
use Rattle.clru_linked_map.specs.LinkedMap.{hash_by, pairs_of}
use Rattle.clru_linked_map.proofs.Sifting.{IsSifting}
use Rattle.clru_linked_map.proofs.indexed_list.IndexedList.sift.Given as goal

abbrev pub invariant-loop-next : goal.invariant-loop-next
invariant-loop-next g l = record {
  sifting : IsSifting (CalledAtPair g.F.FnMut) (TakesPair g.F.FnMut) l.fn.keep l.fn.self.list l.keep l.self.list l.next;
  weighs : l.total_weight ≡ weight_of (g.W.WeightScale.weight l.scale) (pairs_of l.self.list.entries);
  indexed : IsIndexed (hash_by g.S.Hasher.Hasher.finish g.S.Hasher.Hasher.write g.S.BuildHasher.build_hasher g.K.Hash.hash_input) l.self;
  same : KeepsAllButPairs l.fn.self l.self;
}

abbrev pub decreases-loop-next : goal.decreases-loop-next
decreases-loop-next g l = length (from_place l.next l.self.list.entries)
