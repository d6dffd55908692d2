use Rattle.std.proofs.Common.{◌≡◌, Some, None, length, arith, sym, ap, ◌∙◌, subst}
use Rattle.clru_list.specs.PlaceList.{without, with_entries, item_at, IsApart}
use Rattle.clru_linked_map.specs.IndexedList.{IsIndexed}
use Rattle.clru_linked_map.specs.LinkedMap.{hash_by}
use Rattle.clru_linked_map.proofs.IndexedMoves.{chained_drop, indexed_from}
use Rattle.clru_linked_map.proofs.Placed.{length-without}
use Rattle.clru_linked_map.proofs.indexed_list.IndexedList.remove.Goals as goal

pub unreachable-requires : goal.unreachable-requires
unreachable-requires g c =
    let h = c.requires.home in
    let no : None ≡ Some h.item = sym c.in-None.is ∙ c.remove.ensures.value ∙ ap (λ l. item_at c.args.place l.entries) c.unchain.ensures.list ∙ h.held in cc

pub returns-clause-pair : goal.returns-clause-pair
returns-clause-pair g c =
    sym (c.in-Some.ensures.value ∙ ap (λ l. item_at c.args.place l.entries) c.unchain.ensures.list)

pub returns-clause-indexed : goal.returns-clause-indexed
returns-clause-indexed g c =
    let hash = hash_by g.S.Hasher.Hasher.finish g.S.Hasher.Hasher.write g.S.BuildHasher.build_hasher g.K.Hash.hash_input in
    let x = c.args.self.now in let u = c.unchain.new.self in let p = c.args.place in
    let same = c.unchain.ensures.same in let list = c.unchain.ensures.list in
    subst (λ l. IsIndexed hash (record u { list = l })) (sym c.in-Some.ensures.entries)
    (indexed_from {x = x} {y = record u { list = with_entries u.list (without p u.list.entries) }} c.requires.indexed
    (record { capacity = same.capacity; places = same.places; builder = same.builder; index = same.index })
    (chained_drop p u.list.entries (subst (λ l. IsApart l.entries) (sym list) c.requires.valid.apart) c.unchain.ensures.chained)
    (omega (arith, length-without p u.list.entries, ap (λ l. length l.entries) list)))
