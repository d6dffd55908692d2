use Rattle.std.proofs.Common.{◌≡◌, Some, true, refl, length, ◌<◌, sym, ap, ◌∙◌, subst, arith}
use Rattle.clru_list.specs.PlaceList.{item_at}
use Rattle.clru_list.specs.Places.{nowhere}
use Rattle.clru_linked_map.specs.Chained.{of_bucket, steps_left}
use Rattle.clru_linked_map.specs.BucketList.{place_named, tag_by}
use Rattle.clru_linked_map.specs.Buckets.{bucket_by, number_in, place_in, key_at, steps_in, home_at, IsLive, IsAt}
use Rattle.clru_linked_map.specs.LinkedMap.{hash_by}
use Rattle.clru_linked_map.proofs.Chaining.{key_met, steps_off}
use Rattle.clru_linked_map.proofs.ChainWalks.{walk_alive, walk_last, walk_step, walk_nearer}
use Rattle.clru_linked_map.proofs.Cuts.{cut_here}
use Rattle.clru_linked_map.proofs.Hints.{as_hint}
use Rattle.clru_linked_map.proofs.Indexed.{same_hash, walk_along, live_met, live_of_key}
use Rattle.clru_linked_map.proofs.Placed.{live_below, none_at_start}
use Rattle.clru_linked_map.proofs.PlacedPairs.{absent_from}
use Rattle.clru_linked_map.proofs.indexed_list.IndexedList.find.Goals as goal

pub loop-key-init : goal.loop-key-init
loop-key-init g c =
    let x = c.args.self.now in let es = x.list.entries in let key = c.args.key in let eq = g.Q.Equivalent.equivalent in
    let hash = hash_by g.S.Hasher.Hasher.finish g.S.Hasher.Hasher.write g.S.BuildHasher.build_hasher g.K.Hash.hash_input in
    let h = c.bucket_of-bucket.result in let chained = c.requires.indexed.chained in let first = c.first-number.ensures.number in
    let alike : (k : g.row.K.Denot) → eq key k ≡ true → home_at hash x k ≡ h =
    λ k same. ap (λ n. bucket_by (length x.index.firsts) n) (sym (c.requires.hash ∙ same_hash g.S.Hasher.Hasher.finish g.S.Hasher.Hasher.write
    g.S.BuildHasher.build_hasher g.Q.Hash.hash_input g.K.Hash.hash_input x.hash_builder (g.met.Q.Equivalent.respects_hash key k same))) ∙ sym c.bucket_of-bucket.ensures.bucket in
    record {
      walk = rw first (walk_along (home_at hash x) es chained.chains (live_of_key es) h
          (λ q. IsLive es q × (0 < of_bucket (home_at hash x) h (key_at es) q)) (λ q. (q ≡ nowhere → ⊥) × IsAt eq key q es)
          (λ q off met. (live_met (home_at hash x) es chained.chains (live_of_key es) h q met off, met))
          (λ q at. (
            at.0,
            key_met (home_at hash x) h (key_at es) q at.1.item.0 (rw at.1.held refl) (alike at.1.item.0 at.1.same),
          )));
      hint = as_hint first (ap (place_named x.index.bound) first) (chained.hints h nowhere (cut_here (chained.chains.chain h)));
    }

pub is_other-requires-clause-tagged : goal.is_other-requires-clause-tagged
is_other-requires-clause-tagged g c =
    let x = c.args.self.now in
    λ k off held same. c.loop-key.invariant.hint.tagged k off held
    ∙ ap (tag_by x.index.tags) (sym (c.requires.hash ∙ same_hash g.S.Hasher.Hasher.finish g.S.Hasher.Hasher.write
    g.S.BuildHasher.build_hasher g.Q.Hash.hash_input g.K.Hash.hash_input x.hash_builder (g.met.Q.Equivalent.respects_hash c.args.key k same)))

pub is_other-requires-clause-live : goal.is_other-requires-clause-live
is_other-requires-clause-live g c =
    let x = c.args.self.now in
    λ off. (walk_alive c.loop-key.invariant.walk (λ a. none_at_start x.list c.len-len.ensures.valid a.0) off).0

pub returns-then-is_last-clause-absent : goal.returns-then-is_last-clause-absent
returns-then-is_last-clause-absent g c =
    let x = c.args.self.now in let valid = c.len-len.ensures.valid in let i = c.loop-key.invariant in
    let none = none_at_start x.list valid in
    absent_from g.Q.Equivalent.equivalent c.args.key x.list.entries valid.apart
    (λ p at. walk_last i.walk (λ a. none a.0) (λ off w. c.is_other.ensures.other c.loop-key-test.true off w.1)
    (λ off.
    let live = (walk_alive i.walk (λ a. none a.0) off).0 in
    steps_off (place_in x.index.bound x.index.firsts) (place_in x.index.bound x.index.links) c.bucket_of-bucket.result _ off
    ∙ i.hint.ends live.0.0 off (rw live.1 refl) (c.is_last.ensures.last c.if-is_last.true))
    p (λ e. none (at.item, subst (λ q. item_at q x.list.entries ≡ Some at.item) e at.held), at))

pub next-number-requires : goal.next-number-requires
next-number-requires g c =
    let x = c.args.self.now in let valid = c.len-len.ensures.valid in let i = c.loop-key.invariant in
    let off = i.hint.leads (c.is_last.ensures.more c.if-is_last.false) in
    let live = (walk_alive i.walk (λ a. none_at_start x.list valid a.0) off).0 in
    omega (arith, live_below x.list valid (place_named x.index.bound c.loop-key.number) live, c.place-place.ensures, c.requires.indexed.linked)

pub loop-key-smaller : goal.loop-key-smaller
loop-key-smaller g c =
    let x = c.args.self.now in let valid = c.len-len.ensures.valid in let i = c.loop-key.invariant in
    let next = place_named x.index.bound c.loop-key.number in let f = steps_in x.index c.bucket_of-bucket.result in
    let off = i.hint.leads (c.is_last.ensures.more c.if-is_last.false) in
    let new = c.next-number.ensures.number ∙ ap (number_in x.index.links) c.place-place.ensures in
    let step = steps_off (place_in x.index.bound x.index.firsts) (place_in x.index.bound x.index.links) c.bucket_of-bucket.result next off
    ∙ sym (ap (place_named x.index.bound) new) in
    subst (λ n. steps_left f n (length x.list.entries) < steps_left f next (length x.list.entries)) step
    (walk_nearer i.walk (λ a. none_at_start x.list valid a.0) off)

pub loop-key-preserved : goal.loop-key-preserved
loop-key-preserved g c =
    let x = c.args.self.now in let es = x.list.entries in let valid = c.len-len.ensures.valid in let i = c.loop-key.invariant in
    let next = place_named x.index.bound c.loop-key.number in let h = c.bucket_of-bucket.result in
    let none = none_at_start x.list valid in
    let off = i.hint.leads (c.is_last.ensures.more c.if-is_last.false) in
    let new = c.next-number.ensures.number ∙ ap (number_in x.index.links) c.place-place.ensures in
    let placed = ap (place_named x.index.bound) new in
    let step = steps_off (place_in x.index.bound x.index.firsts) (place_in x.index.bound x.index.links) h next off ∙ sym placed in
    let alive = walk_alive i.walk (λ a. none a.0) off in
    record {
      walk = rw (← step) (walk_step i.walk (λ a. none a.0) off (λ q. (q ≡ nowhere → ⊥) × IsAt g.Q.Equivalent.equivalent c.args.key q es) (λ q w. w)
          (λ w. c.is_other.ensures.other c.loop-key-test.true off w.1));
      hint = as_hint (new ∙ sym (steps_off (number_in x.index.firsts) (number_in x.index.links) h next off)) (sym step)
          (c.requires.indexed.chained.hints h next alive.1);
    }

pub returns-clause-found : goal.returns-clause-found
returns-clause-found g c =
    subst (λ p. IsAt g.Q.Equivalent.equivalent c.args.key p c.args.self.now.list.entries) (sym c.place.ensures)
    (c.is_other.ensures.found c.loop-key-test.false)
