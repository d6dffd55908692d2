use Rattle.std.proofs.Common.{◌≡◌, Some, None, ◌∷◌, length, arith, refl, sym, ap, ◌∙◌, subst}
use Rattle.std.proofs.lemmas.Bool.{eq-eqb}
use Rattle.std.specs.Option.{option_copied_mut}
use Rattle.clru_list.specs.PlaceList.{item_at, without, IsApart, IsValid}
use Rattle.clru_linked_map.specs.LinkedMap.{hash_by, linked_map, pairs_of}
use Rattle.clru_linked_map.proofs.IndexedMoves.{chained_replace, indexed_from}
use Rattle.clru_linked_map.proofs.Placed.{length-without_held}
use Rattle.clru_linked_map.proofs.Same.{size_trans}
use Rattle.clru_linked_map.proofs.Valid.{valid-front}
use Rattle.clru_linked_map.proofs.PlaceEnds.{last_at, held_last, last_pair, none_at_last}
use Rattle.clru_linked_map.proofs.map.LinkedHashMap.replace_back.Goals as goal

pub unreachable-requires : goal.unreachable-requires
unreachable-requires g c =
    let es = c.self.inside.items.list.entries in
    let none = none_at_last es (sym c.back_idx.ensures.place ∙ c.in_default.is) in
    let some = rw (← c.self.view_is) at c.requires.some in let no = rw none at some in absurd (omega arith)

pub home-old_bucket-requires : goal.home-old_bucket-requires
home-old_bucket-requires g c =
    let l = last_at c.in-Some.place c.self.inside.items.list.entries (sym c.in-Some.ensures.place) in
    (l.item, (held_last c.back_idx.ensures.valid.apart l).0)

pub unreachable-requires-in_default-move_front : goal.unreachable-requires-in_default-move_front
unreachable-requires-in_default-move_front g c =
    let h = c.home-old_bucket.ensures.home in
    let no : None ≡ Some h.item = ap option_copied_mut (sym c.in_default-move_front.is) ∙ c.move_front.ensures.value
    ∙ ap (λ l. item_at c.in-Some.place l.entries) c.unchain.ensures.list ∙ h.held in cc

pub append-requires-clause-hash : goal.append-requires-clause-hash
append-requires-clause-hash g c =
    let u = c.unchain.new.self in let p = c.in-Some.place in
    let hash = hash_by g.S.Hasher.Hasher.finish g.S.Hasher.Hasher.write g.S.BuildHasher.build_hasher g.K.Hash.hash_input in
    let h = c.home-old_bucket.ensures.home in let same = c.unchain.ensures.same in
    let key : c.replace-old.new.dest.0 ≡ c.args.key = ap (λ (i : g.row.K.Denot × g.row.V.Denot). i.0) c.replace-old.ensures.after in
    record {
      item = c.replace-old.new.dest;
      held = rw (eq-eqb p p refl) refl;
      hashed = sym ((rw (← c.self.view_is) at c.requires.hash) ∙ ap (λ b. hash b c.args.key) (sym same.builder) ∙ ap (λ k. hash u.hash_builder k) (sym key));
      off = h.off;
    }

pub append-requires-clause-chained : goal.append-requires-clause-chained
append-requires-clause-chained g c =
    let u = c.unchain.new.self in
    chained_replace c.in-Some.place c.replace-old.new.dest u.list.entries
    (subst (λ l. IsApart l.entries) (sym c.unchain.ensures.list) c.back_idx.ensures.valid.apart) c.unchain.ensures.chained

pub append-requires-clause-valid : goal.append-requires-clause-valid
append-requires-clause-valid g c =
    let h = c.home-old_bucket.ensures.home in let p = c.in-Some.place in let list = c.unchain.ensures.list in
    valid-front c.unchain.new.self.list (subst (λ l. IsValid l) (sym list) c.back_idx.ensures.valid) p c.replace-old.new.dest h.item
    (ap (λ l. item_at p l.entries) list ∙ h.held)

pub returns-clause-pair : goal.returns-clause-pair
returns-clause-pair g c =
    let es = c.self.inside.items.list.entries in let p = c.in-Some.place in
    let l = last_at p es (sym c.in-Some.ensures.place) in
    let item = c.in-Some-move_front.item.now in
    let both : Some item ≡ Some l.item = c.in-Some-move_front.ensures.value ∙ ap (λ l. item_at p l.entries) c.unchain.ensures.list
    ∙ (held_last c.back_idx.ensures.valid.apart l).0 in
    let is : item ≡ l.item = cc in
    rw (← c.self.view_is) (ap (λ (i : g.row.K.Denot × g.row.V.Denot). Some i) (c.replace-old.ensures.value ∙ is) ∙ sym (last_pair l).0)

pub returns-clause-entries : goal.returns-clause-entries
returns-clause-entries g c =
    let es = c.self.inside.items.list.entries in let u = c.unchain.new.self.list.entries in let p = c.in-Some.place in
    let a = c.unchain.ensures.same in let b = c.append.ensures.same in
    let l = last_at p es (sym c.in-Some.ensures.place) in
    let pairs = ap (λ l. pairs_of l.entries) c.append.ensures.list ∙ ap (λ (i : g.row.K.Denot × g.row.V.Denot). i ∷ pairs_of (without p u)) c.replace-old.ensures.after
    ∙ ap (λ ps. (c.args.key, c.args.value) ∷ ps) (ap (λ l. pairs_of (without p l.entries)) c.unchain.ensures.list
    ∙ ap (λ fs. pairs_of fs) (held_last c.back_idx.ensures.valid.apart l).1 ∙ sym (last_pair l).1) in
    let capacity = b.capacity ∙ a.capacity in let places = b.places ∙ a.places in let builder = b.builder ∙ a.builder in
    rw (← c.self.view_is) (λ j. linked_map (pairs j) (capacity j) (places j) (builder j))

pub invariant_of-self : goal.invariant_of-self
invariant_of-self g c =
    let x = c.self.inside.items in let u = c.unchain.new.self.list.entries in let p = c.in-Some.place in let h = c.home-old_bucket.ensures.home in
    let a = c.unchain.ensures.same in let b = c.append.ensures.same in let list = c.unchain.ensures.list in
    indexed_from {x = x} c.self.invariant
    (record {
      capacity = b.capacity ∙ a.capacity;
      places = b.places ∙ a.places;
      builder = b.builder ∙ a.builder;
      index = size_trans a.index b.index;
    })
    c.append.ensures.chained
    (omega (
      arith,
      ap (λ l. length l.entries) c.append.ensures.list,
      length-without_held p u h.item (ap (λ l. item_at p l.entries) list ∙ h.held),
      ap (λ l. length l.entries) list,
    ))
