use Rattle.std.proofs.Common.{◌≡◌, [], ap, arith}
use Rattle.clru_list.specs.PlaceList.{place_list}
use Rattle.clru_linked_map.specs.LinkedMap.{hash_by}
use Rattle.clru_linked_map.proofs.Indexed.{indexed_none}
use Rattle.clru_linked_map.proofs.map.LinkedHashMap.with_narrow_places.Goals as goal

pub invariant_of-result : goal.invariant_of-result
invariant_of-result g c =
    let hash = hash_by g.S.Hasher.Hasher.finish g.S.Hasher.Hasher.write g.S.BuildHasher.build_hasher g.K.Hash.hash_input in
    let empty : c.with_narrow_places.result ≡ place_list [] c.args.capacity 0 = c.with_narrow_places.ensures in
    let places = ap (λ l. l.places) empty in let buckets = c.new.ensures in
    indexed_none hash _ (ap (λ l. l.entries) empty) buckets.free (omega (arith, buckets.unlinked)) (omega (arith, places)) (omega (arith, places))
