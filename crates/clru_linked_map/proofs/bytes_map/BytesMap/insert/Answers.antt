use Rattle.clru_linked_map.specs.BytesTable.{bytes_hash_by}
use Rattle.clru_linked_map.proofs.bytes_map.BytesMap.insert.Goals as goal

pub invariant_of-self : goal.invariant_of-self
invariant_of-self g c =
    let hash = bytes_hash_by g.S.Hasher.Hasher.finish g.S.Hasher.Hasher.write g.S.BuildHasher.build_hasher in
    (c.replace.ensures.table, rw (c.replace.ensures.builder) (c.pass-at.ensures (hash c.self.inside.table.hash_builder) c.self.invariant.1))

pub hash_at-hash-requires : goal.hash_at-hash-requires
hash_at-hash-requires g c =
    let hash = bytes_hash_by g.S.Hasher.Hasher.finish g.S.Hasher.Hasher.write g.S.BuildHasher.build_hasher in
    c.pass-at.ensures (hash c.self.inside.table.hash_builder) c.self.invariant.1

pub invariant_of-self-in-Some : goal.invariant_of-self-in-Some
invariant_of-self-in-Some g c =
    let hash = bytes_hash_by g.S.Hasher.Hasher.finish g.S.Hasher.Hasher.write g.S.BuildHasher.build_hasher in
    (c.replace-in-Some.ensures.table, rw (c.replace-in-Some.ensures.builder) (c.pass-at.ensures (hash c.self.inside.table.hash_builder) c.self.invariant.1))

pub invariant_of-self-in_err-push-in-None : goal.invariant_of-self-in_err-push-in-None
invariant_of-self-in_err-push-in-None g c =
    let hash = bytes_hash_by g.S.Hasher.Hasher.finish g.S.Hasher.Hasher.write g.S.BuildHasher.build_hasher in
    (c.push.ensures.table, rw (c.push.ensures.builder) (c.pass-at.ensures (hash c.self.inside.table.hash_builder) c.self.invariant.1))

pub invariant_of-self-in-None : goal.invariant_of-self-in-None
invariant_of-self-in-None g c =
    let hash = bytes_hash_by g.S.Hasher.Hasher.finish g.S.Hasher.Hasher.write g.S.BuildHasher.build_hasher in
    (c.push.ensures.table, rw (c.push.ensures.builder) (c.pass-at.ensures (hash c.self.inside.table.hash_builder) c.self.invariant.1))
