use Rattle.std.proofs.Common.{◌≡◌, [], arith, min, refl}
use Rattle.clru_list.specs.PlaceList.{place_list}
use Rattle.clru_linked_map.specs.LinkedMap.{hash_by}
use Rattle.clru_linked_map.proofs.Indexed.{indexed_none}
use Rattle.clru_linked_map.proofs.map.LinkedHashMap.with_memory.Goals as goal

pub invariant_of-result : goal.invariant_of-result
invariant_of-result g c =
    let hash = hash_by g.S.Hasher.Hasher.finish g.S.Hasher.Hasher.write g.S.BuildHasher.build_hasher g.K.Hash.hash_input in
    let list = c.in-Ok-with_memory.list in let buckets = c.in-Ok.ensures in
    let empty : list ≡ place_list [] c.args.capacity (min c.min-places.result c.args.capacity) = c.in-Ok-with_memory.ensures.empty in
    let none : list.entries ≡ [] = rw empty refl in let places : list.places ≡ min c.min-places.result c.args.capacity = rw empty refl in
    indexed_none hash _ none buckets.free buckets.spread
    (omega (arith, places, c.min-places.ensures, buckets.linked)) (omega (arith, places, c.min-places.ensures, buckets.linked, buckets.named))
