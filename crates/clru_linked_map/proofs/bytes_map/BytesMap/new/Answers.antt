use Rattle.clru_linked_map.specs.BytesTable.{bytes_hash_by}
use Rattle.clru_linked_map.proofs.bytes_map.BytesMap.new.Goals as goal

pub invariant_of-result : goal.invariant_of-result
invariant_of-result g c =
    let hash = bytes_hash_by g.S.Hasher.Hasher.finish g.S.Hasher.Hasher.write g.S.BuildHasher.build_hasher in
    (c.new.ensures.table, c.new-2.ensures (hash c.new.result.hash_builder))
