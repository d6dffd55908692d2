use Rattle.std.proofs.Common.{◌<◌, length, refl, sym, ap, ◌∙◌, subst, arith}
use Rattle.std.proofs.lemmas.List.{get_or-set_same, length-set}
use Rattle.clru_list.specs.Places.{nowhere}
use Rattle.clru_linked_map.specs.Chained.{IsPlace}
use Rattle.clru_linked_map.specs.BucketList.{place_named, tag_by}
use Rattle.clru_linked_map.specs.Buckets.{bucket_by, number_in, key_at, IsNumberOf}
use Rattle.clru_linked_map.specs.LinkedMap.{hash_by}
use Rattle.clru_linked_map.proofs.ChainWalks.{walk_weaker}
use Rattle.clru_linked_map.proofs.Cuts.{passed_met}
use Rattle.clru_linked_map.proofs.Indexed.{walk_of_chain, live_at_cut, live_met, live_but}
use Rattle.clru_linked_map.proofs.Placed.{live_below}
use Rattle.clru_linked_map.proofs.Steps.{chained_cleared, chained_behind}
use Rattle.clru_linked_map.proofs.indexed_list.IndexedList.append.Goals as goal

pub number_of-number-requires : goal.number_of-number-requires
number_of-number-requires g c =
    let h = c.requires.hash in
    omega (arith, live_below c.args.self.now.list c.requires.valid c.args.place (h.item, h.held), c.requires.named)

pub set_next-requires-clause-place : goal.set_next-requires-clause-place
set_next-requires-clause-place g c =
    let h = c.requires.hash in
    omega (arith, live_below c.args.self.now.list c.requires.valid c.args.place (h.item, h.held), c.requires.linked)

pub before-last-requires-clause-walk : goal.before-last-requires-clause-walk
before-last-requires-clause-walk g c =
    let x = c.args.self.now in let es = x.list.entries in let p = c.args.place in let h = c.requires.hash in
    let within : p < length x.index.links = omega (arith, live_below x.list c.requires.valid p (h.item, h.held), c.requires.linked) in
    let hash = hash_by g.S.Hasher.Hasher.finish g.S.Hasher.Hasher.write g.S.BuildHasher.build_hasher g.K.Hash.hash_input in
    let same = c.set_next.ensures in
    let links = ap (λ h. length h.links) same ∙ length-set x.index.links p 0 in
    let chained = chained_cleared (hash x.hash_builder) (key_at es) p x.index c.set_next.new.self within c.requires.chained same in
    walk_weaker (walk_of_chain _ es chained.chains (live_but es p) c.bucket_of-bucket.result (IsPlace nowhere) (λ q w. absurd (w.1 refl)))
    (λ q live. omega (arith, live_below x.list c.requires.valid q live, c.requires.linked, links))
    (omega (arith, c.requires.valid.held, c.requires.linked, links))

pub note-requires-clause-place : goal.note-requires-clause-place
note-requires-clause-place g c =
    let x = c.args.self.now in let es = x.list.entries in let p = c.args.place in let h = c.requires.hash in
    let within : p < length x.index.links = omega (arith, live_below x.list c.requires.valid p (h.item, h.held), c.requires.linked) in
    let hash = hash_by g.S.Hasher.Hasher.finish g.S.Hasher.Hasher.write g.S.BuildHasher.build_hasher g.K.Hash.hash_input in
    let same = c.set_next.ensures in
    let links = ap (λ h. length h.links) same ∙ length-set x.index.links p 0 in
    let chained = chained_cleared (hash x.hash_builder) (key_at es) p x.index c.set_next.new.self within c.requires.chained same in
    let cut = c.before-last.ensures.cut _ (chained.chains.chain c.bucket_of-bucket.result) in
    λ off. omega (
      arith,
      live_below x.list c.requires.valid _ (live_met _ es chained.chains (live_but es p) c.bucket_of-bucket.result _ (passed_met cut) off),
      c.requires.linked,
      links,
    )

pub link-requires-clause-place : goal.link-requires-clause-place
link-requires-clause-place g c =
    let x = c.args.self.now in let es = x.list.entries in let p = c.args.place in let h = c.requires.hash in
    let within : p < length x.index.links = omega (arith, live_below x.list c.requires.valid p (h.item, h.held), c.requires.linked) in
    let hash = hash_by g.S.Hasher.Hasher.finish g.S.Hasher.Hasher.write g.S.BuildHasher.build_hasher g.K.Hash.hash_input in
    let same = c.set_next.ensures in
    let links = ap (λ h. length h.links) same ∙ length-set x.index.links p 0 in
    let chained = chained_cleared (hash x.hash_builder) (key_at es) p x.index c.set_next.new.self within c.requires.chained same in
    let cut = c.before-last.ensures.cut _ (chained.chains.chain c.bucket_of-bucket.result) in
    λ off. omega (
      arith,
      live_below x.list c.requires.valid _ (live_at_cut _ es chained.chains (live_but es p) c.bucket_of-bucket.result _ cut.cut off),
      c.requires.linked,
      links,
      c.note.ensures.same.links,
    )

pub returns-clause-chained : goal.returns-clause-chained
returns-clause-chained g c =
    let x = c.args.self.now in let es = x.list.entries in let p = c.args.place in let h = c.requires.hash in
    let within : p < length x.index.links = omega (arith, live_below x.list c.requires.valid p (h.item, h.held), c.requires.linked) in
    let hash = hash_by g.S.Hasher.Hasher.finish g.S.Hasher.Hasher.write g.S.BuildHasher.build_hasher g.K.Hash.hash_input in
    let same = c.set_next.ensures in let note = c.note.ensures in let before = c.before-last.ensures in let n = c.number_of-number.result in
    let number = subst (λ m. IsNumberOf x.index p m n) (sym h.hashed) c.number_of-number.ensures in
    let chained = chained_cleared (hash x.hash_builder) (key_at es) p x.index c.set_next.new.self within c.requires.chained same in
    let b = c.set_next.new.self in let bound = ap (λ l. l.bound) same in let tags = ap (λ l. l.tags) same in let k = hash x.hash_builder h.item.0 in
    chained_behind (hash x.hash_builder) (key_at es) p b c.note.new.self c.bucket_of-bucket.result _ _ chained before.behind
    (before.cut _ (chained.chains.chain c.bucket_of-bucket.result)) note.none note.written (λ off. note.leads off refl)
    h.off (rw h.held refl)
    (ap (λ l. bucket_by (length l.firsts) k) same ∙ ap (λ m. bucket_by (length x.index.firsts) m) h.hashed ∙ sym c.bucket_of-bucket.ensures.bucket)
    (ap (λ m. place_named m n) bound ∙ number.place) (ap (λ t. tag_by t n) tags ∙ number.tag ∙ sym (ap (λ t. tag_by t k) tags))
    (λ more. omega (arith, more, bound, tags, number.ends))
    (ap (λ l. number_in l.links p) same ∙ get_or-set_same x.index.links p 0 0 within)
    before.leads note.same c.link.ensures.written c.link.ensures.same
