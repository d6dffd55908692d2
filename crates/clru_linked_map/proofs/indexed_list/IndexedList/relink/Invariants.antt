use Rattle.std.proofs.Common.{◌≡◌}
use Rattle.clru_linked_map.specs.Buckets.{IsChainedAs}
use Rattle.clru_linked_map.specs.IndexedList.{KeepsAllButPairs}
use Rattle.clru_linked_map.specs.LinkedMap.{hash_by}
use Rattle.clru_linked_map.proofs.Relinking.{key_from}
use Rattle.clru_linked_map.proofs.indexed_list.IndexedList.relink.Given as goal

abbrev pub invariant-loop-place : goal.invariant-loop-place
invariant-loop-place g l =
    let hash = hash_by g.S.Hasher.Hasher.finish g.S.Hasher.Hasher.write g.S.BuildHasher.build_hasher g.K.Hash.hash_input in
    record {
      chained : IsChainedAs hash (key_from l.place l.self.list.entries) l.self;
      list : l.self.list ≡ l.fn.self.list;
      same : KeepsAllButPairs l.fn.self l.self;
    }

abbrev pub decreases-loop-place : goal.decreases-loop-place
decreases-loop-place g l = l.place
