use Rattle.std.proofs.Common.{◌≡◌, ◌+◌, ◌-◌, Some, length, refl, sym, ap, ◌∙◌, subst, arith, inl, inr}
use Rattle.std.proofs.lemmas.Bool.{cases_Bool}
use Rattle.std.specs.Option.{option_copied}
use Rattle.clru_list.specs.PlaceList.{item_at}
use Rattle.clru_list.specs.Places.{nowhere}
use Rattle.clru_linked_map.specs.Chained.{IsRelinked}
use Rattle.clru_linked_map.specs.BucketList.{place_named, tag_by}
use Rattle.clru_linked_map.specs.Buckets.{bucket_by, number_in, IsChainedAs}
use Rattle.clru_linked_map.specs.LinkedMap.{hash_by}
use Rattle.clru_linked_map.proofs.Hints.{linked_none}
use Rattle.clru_linked_map.proofs.Indexed.{sized_stay}
use Rattle.clru_linked_map.proofs.Placed.{live_below, none_at_start}
use Rattle.clru_linked_map.proofs.Relinking.{key_from, none_past, linked_skip, linked_more, linked_whole}
use Rattle.clru_linked_map.proofs.Same.{same_refl, size_trans}
use Rattle.clru_linked_map.proofs.indexed_list.IndexedList.relink.Goals as goal

pub loop-place-init : goal.loop-place-init
loop-place-init g c =
    let x = c.args.self.now in let es = x.list.entries in
    record {
      chained = linked_none (number_in x.index.firsts) (number_in x.index.links) (key_from c.places-place.result es) c.requires.free refl
          (λ q off. rw c.places-place.ensures.places (none_past x.list c.places-place.ensures.valid q));
      list = refl;
      same = same_refl;
    }

pub loop-place-preserved-in_default : goal.loop-place-preserved-in_default
loop-place-preserved-in_default g c =
    let hash = hash_by g.S.Hasher.Hasher.finish g.S.Hasher.Hasher.write g.S.BuildHasher.build_hasher g.K.Hash.hash_input in
    let x = c.loop-place.self in let es = x.list.entries in let i = c.loop-place.invariant in let p = c.loop-place.place - 1 in
    let next : c.loop-place.place ≡ p + 1 = omega arith in
    record {
      chained = linked_skip p es
          (subst (λ n. IsChainedAs hash (key_from n es) x) next i.chained)
          (sym c.get.ensures.value ∙ ap option_copied c.in_default.is);
      list = i.list;
      same = i.same;
    }

pub number_of-number-requires : goal.number_of-number-requires
number_of-number-requires g c =
    let x = c.loop-place.self in let i = c.loop-place.invariant in
    omega (
      arith,
      live_below x.list c.get.ensures.valid (c.loop-place.place - 1) (c.in-Some.item.now, sym c.in-Some.ensures.value),
      c.requires.named,
      ap (λ l. l.places) i.list,
      i.same.index.bound,
    )

pub link-requires-clause-place : goal.link-requires-clause-place
link-requires-clause-place g c =
    let x = c.loop-place.self in let i = c.loop-place.invariant in
    λ off. omega (
      arith,
      live_below x.list c.get.ensures.valid (c.loop-place.place - 1) (c.in-Some.item.now, sym c.in-Some.ensures.value),
      c.requires.linked,
      ap (λ l. l.places) i.list,
      i.same.index.links,
    )

pub loop-place-preserved : goal.loop-place-preserved
loop-place-preserved g c =
    let hash = hash_by g.S.Hasher.Hasher.finish g.S.Hasher.Hasher.write g.S.BuildHasher.build_hasher g.K.Hash.hash_input in
    let x = c.loop-place.self in let es = x.list.entries in let i = c.loop-place.invariant in let p = c.loop-place.place - 1 in
    let h₁ = c.link.new.self in let h₂ = c.link-in-loop-place.new.self in
    let item = c.in-Some.item.now in let h = c.bucket_of-bucket.result in let n = c.number_of-number.ensures in let noted = c.noted-noted.ensures in
    let next : c.loop-place.place ≡ p + 1 = omega arith in
    let held : item_at p es ≡ Some item = sym c.in-Some.ensures.value in
    let off : p ≡ nowhere → ⊥ =
    λ e. none_at_start x.list c.get.ensures.valid (item, subst (λ q. item_at q es ≡ Some item) e held) in
    let size = size_trans c.link.ensures.same c.link-in-loop-place.ensures.same in
    let one = subst (λ t. IsRelinked (number_in x.index.firsts) (number_in x.index.links) h p t (number_in h₁.firsts) (number_in h₁.links))
    c.first-first.ensures.number c.link.ensures.written in
    record {
      chained = sized_stay (hash x.hash_builder) size.buckets size.bound size.tags
          (linked_more p es (subst (λ m. IsChainedAs hash (key_from m es) x) next i.chained) h c.noted-noted.result item off held
          (sym (c.bucket_of-bucket.ensures.bucket ∙ ap (λ m. bucket_by (length x.index.firsts) m) c.hash-hash.ensures))
          (noted.place ∙ n.place) (noted.tag ∙ n.tag ∙ ap (λ m. tag_by x.index.tags m) c.hash-hash.ensures)
          (λ short. elim (cases_Bool c.is_named-leads.result) [
            | inl t ↦ let more = noted.leads t in absurd (omega (arith, more, short))
            | inr f ↦ ap (λ m. place_named x.index.bound m) (sym c.first-first.ensures.number) ∙ c.is_named-leads.ensures.none f
          ])
          (λ more end. elim (cases_Bool c.is_named-leads.result) [
            | inl t ↦ c.is_named-leads.ensures.some t (ap (λ m. place_named x.index.bound m) c.first-first.ensures.number ∙ end)
            | inr f ↦ let short = noted.ends f in omega (arith, more, short)
          ]) one c.link-in-loop-place.ensures.written);
      list = i.list;
      same = record { capacity = i.same.capacity; places = i.same.places; builder = i.same.builder; index = size_trans i.same.index size };
    }

pub returns-clause-chained : goal.returns-clause-chained
returns-clause-chained g c =
    let hash = hash_by g.S.Hasher.Hasher.finish g.S.Hasher.Hasher.write g.S.BuildHasher.build_hasher g.K.Hash.hash_input in
    let x = c.loop-place.self in let es = x.list.entries in let i = c.loop-place.invariant in
    let none : c.loop-place.place ≡ 0 = omega arith in
    linked_whole es (subst (λ n. IsChainedAs hash (key_from n es) x) none i.chained)
