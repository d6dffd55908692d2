use Rattle.clru_linked_map.specs.BytesTable.{bytes_hash_by}
use Rattle.clru_linked_map.proofs.bytes_map.BytesMap.announce.Goals as goal

pub invariant_of-self : goal.invariant_of-self
invariant_of-self g c =
    let hash = bytes_hash_by g.S.Hasher.Hasher.finish g.S.Hasher.Hasher.write g.S.BuildHasher.build_hasher in
    (c.self.invariant.0, c.push.ensures (hash c.self.inside.table.hash_builder) c.hash-hash.ensures c.self.invariant.1)
