use Rattle.std.proofs.Common.{◌<◌, ◌≤◌, [], length, take}
use Rattle.clru_linked_map.specs.BytesTable.{bytes_hash_by, entries_onto, hashes_of}
use Rattle.clru_linked_map.specs.Stacked.{IsStacked}
use Rattle.clru_linked_map.proofs.bytes_table.BytesTable.grown_index.Given as goal

abbrev pub invariant-loop-place : goal.invariant-loop-place
invariant-loop-place g l =
    let hash = bytes_hash_by g.S.Hasher.Hasher.finish g.S.Hasher.Hasher.write g.S.BuildHasher.build_hasher in
    record {
      stacked : IsStacked l.index (hashes_of (hash l.self.hash_builder) (entries_onto l.self.buffer.items 0 (take l.place l.self.held.items) []));
      linked : length l.self.held.items < length l.index.links;
      named : length l.index.links ≤ l.index.bound;
    }
