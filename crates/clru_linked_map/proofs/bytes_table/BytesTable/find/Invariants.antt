use Rattle.std.specs.Prelude.{bytes_eq}
use Rattle.clru_linked_map.specs.BucketList.{place_named}
use Rattle.clru_linked_map.specs.BytesTable.{IsSought, bytes_hash_by, entries_of, places_to}
use Rattle.clru_linked_map.proofs.bytes_table.BytesTable.find.Given as goal

abbrev pub invariant-chain : goal.invariant-chain
invariant-chain g l =
    let hash = bytes_hash_by g.S.Hasher.Hasher.finish g.S.Hasher.Hasher.write g.S.BuildHasher.build_hasher in
    IsSought (hash l.self.hash_builder) (bytes_eq l.bytes) l.self.index l.bucket l.number (entries_of l.self)

abbrev pub decreases-chain : goal.decreases-chain
decreases-chain g l = places_to (place_named l.self.index.bound l.number)
