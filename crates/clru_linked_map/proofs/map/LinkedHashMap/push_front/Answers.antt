use Rattle.std.proofs.Common.{◌≡◌, Some, None, refl, sym, ap, ◌∙◌, subst}
use Rattle.std.proofs.lemmas.Bool.{eq-eqb}
use Rattle.clru_list.specs.PlaceList.{item_at, IsApart}
use Rattle.clru_list.specs.Places.{put}
use Rattle.clru_linked_map.specs.Buckets.{key_at, IsChainedAs}
use Rattle.clru_linked_map.specs.LinkedMap.{hash_by}
use Rattle.clru_linked_map.proofs.IndexedMoves.{chained_push}
use Rattle.clru_linked_map.proofs.Placed.{none_at_start}
use Rattle.clru_linked_map.proofs.map.LinkedHashMap.push_front.Goals as goal

pub append-requires-clause-hash : goal.append-requires-clause-hash
append-requires-clause-hash g c =
    let es = c.push_front.new.self.entries in let p = c.in-Ok.place in
    let item : g.row.K.Denot × g.row.V.Denot = (c.args.key, c.args.value) in
    let held : item_at p es ≡ Some item = ap (λ l. item_at p l) c.in-Ok.ensures.entries ∙ rw (eq-eqb p p refl) refl in
    record {
      item = item;
      held = held;
      hashed = sym (rw (← c.self.view_is) at c.requires.hash);
      off = λ e. none_at_start c.push_front.new.self c.in-Ok.ensures.valid (item, subst (λ q. item_at q es ≡ Some item) e held);
    }

pub append-requires-clause-chained : goal.append-requires-clause-chained
append-requires-clause-chained g c =
    let hash = hash_by g.S.Hasher.Hasher.finish g.S.Hasher.Hasher.write g.S.BuildHasher.build_hasher g.K.Hash.hash_input in
    let x = c.self.inside.items in let p = c.in-Ok.place in
    let item : g.row.K.Denot × g.row.V.Denot = (c.args.key, c.args.value) in
    let apart = subst (λ l. IsApart l) c.in-Ok.ensures.entries c.in-Ok.ensures.valid.apart in
    subst (λ l. IsChainedAs hash (put (key_at l) p None) x) (sym c.in-Ok.ensures.entries)
    (chained_push p item x.list.entries apart.0 c.self.invariant.chained)
