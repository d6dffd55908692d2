use Rattle.std.proofs.Common.{sym, subst}
use Rattle.clru_list.specs.PlaceList.{PlaceList}
use Rattle.clru_linked_map.specs.IndexedList.{IsIndexed}
use Rattle.clru_linked_map.specs.LinkedMap.{hash_by}
use Rattle.clru_linked_map.proofs.map.LinkedHashMap.resize.Goals as goal

pub invariant_of-self : goal.invariant_of-self
invariant_of-self g c =
    let hash = hash_by g.S.Hasher.Hasher.finish g.S.Hasher.Hasher.write g.S.BuildHasher.build_hasher g.K.Hash.hash_input in
    let x = c.self.inside.items in let old = c.self.invariant in
    subst (λ (l : PlaceList ((g.row.K.Denot × g.row.V.Denot))). IsIndexed hash (record x { list = l })) (sym c.resize.ensures.resized)
    (record { chained = old.chained; held = old.held; spread = old.spread; linked = old.linked; named = old.named })
