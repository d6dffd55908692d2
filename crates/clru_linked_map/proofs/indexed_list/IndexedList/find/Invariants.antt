use Rattle.std.proofs.Common.{◌≡◌, ◌<◌, length}
use Rattle.clru_list.specs.Places.{nowhere}
use Rattle.clru_linked_map.specs.Chained.{of_bucket, steps_left, IsHint, IsWalk}
use Rattle.clru_linked_map.specs.BucketList.{place_named, tag_by}
use Rattle.clru_linked_map.specs.Buckets.{home_at, key_at, low_of, place_in, steps_in, IsLive, IsAt}
use Rattle.clru_linked_map.specs.LinkedMap.{hash_by}
use Rattle.clru_linked_map.proofs.indexed_list.IndexedList.find.Given as goal

abbrev pub invariant-loop-key : goal.invariant-loop-key
invariant-loop-key g l =
    let x = l.self in let es = x.list.entries in
    let hash = hash_by g.S.Hasher.Hasher.finish g.S.Hasher.Hasher.write g.S.BuildHasher.build_hasher g.K.Hash.hash_input in
    record {
      walk : IsWalk (steps_in x.index l.bucket) (λ q. IsLive es q × (0 < of_bucket (home_at hash x) l.bucket (key_at es) q))
          (λ q. (q ≡ nowhere → ⊥) × IsAt g.Q.Equivalent.equivalent l.key q es) (place_named x.index.bound l.number) (length es);
      hint : IsHint (hash x.hash_builder) (tag_by x.index.tags) (low_of x.index) nowhere (place_in x.index.bound x.index.links) (key_at es)
          l.number (place_named x.index.bound l.number);
    }

abbrev pub decreases-loop-key : goal.decreases-loop-key
decreases-loop-key g l = steps_left (steps_in l.self.index l.bucket) (place_named l.self.index.bound l.number) (length l.self.list.entries)
