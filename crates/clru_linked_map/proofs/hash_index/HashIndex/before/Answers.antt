use Rattle.std.proofs.Common.{◌≡◌, refl, sym, ap, ◌∙◌, subst, arith, length, ◌<◌}
use Rattle.clru_list.specs.Places.{nowhere}
use Rattle.clru_linked_map.specs.Chained.{IsPlace, steps_left}
use Rattle.clru_linked_map.specs.BucketList.{place_named}
use Rattle.clru_linked_map.specs.Buckets.{place_in, steps_in, HasLink}
use Rattle.clru_linked_map.proofs.Chaining.{steps_off}
use Rattle.clru_linked_map.proofs.ChainWalks.{walk_alive, walk_goes_on, walk_step, walk_nearer}
use Rattle.clru_linked_map.proofs.Cuts.{behind_start, behind_step}
use Rattle.clru_linked_map.proofs.hash_index.HashIndex.before.Goals as goal

pub loop-next-init : goal.loop-next-init
loop-next-init g c =
    let x = c.args.self.now in
    let start = c.place-next.ensures ∙ ap (place_named x.bound) c.first-first.ensures.number in
    record {
      leads = sym start;
      there = λ off. absurd {A = steps_in x c.args.bucket nowhere ≡ nowhere} (off refl);
      walk = rw start c.requires.walk;
      cut = λ met whole. behind_start whole;
    }

pub next-link-requires : goal.next-link-requires
next-link-requires g c =
    let w = c.loop-next.invariant.walk in
    let none : HasLink c.args.self.now nowhere → ⊥ = λ h. omega (arith, h, c.first-first.ensures.countable) in
    walk_alive w none (walk_goes_on w none c.args.place (λ q h. h) c.loop-next-test.true)

pub loop-next-smaller : goal.loop-next-smaller
loop-next-smaller g c =
    let x = c.args.self.now in let w = c.loop-next.invariant.walk in let next = c.loop-next.next in
    let none : HasLink x nowhere → ⊥ = λ h. omega (arith, h, c.first-first.ensures.countable) in
    let off = walk_goes_on w none c.args.place (λ q h. h) c.loop-next-test.true in
    let step = steps_off (place_in x.bound x.firsts) (place_in x.bound x.links) c.args.bucket next off
    ∙ sym (c.place-next-in-loop-next.ensures ∙ ap (place_named x.bound) c.next-link.ensures.number) in
    subst (λ n. steps_left (steps_in x c.args.bucket) n (length x.links) < steps_left (steps_in x c.args.bucket) next (length x.links)) step
    (walk_nearer w none off)

pub loop-next-preserved : goal.loop-next-preserved
loop-next-preserved g c =
    let x = c.args.self.now in let i = c.loop-next.invariant in let w = i.walk in let next = c.loop-next.next in
    let none : HasLink x nowhere → ⊥ = λ h. omega (arith, h, c.first-first.ensures.countable) in
    let off = walk_goes_on w none c.args.place (λ q h. h) c.loop-next-test.true in
    let step = steps_off (place_in x.bound x.firsts) (place_in x.bound x.links) c.args.bucket next off
    ∙ sym (c.place-next-in-loop-next.ensures ∙ ap (place_named x.bound) c.next-link.ensures.number) in
    record {
      leads = step;
      there = λ o. i.leads;
      walk = rw (← step) (walk_step w none off (IsPlace c.args.place) (λ q h. h) (λ h. c.loop-next-test.true h.0));
      cut = λ met start. behind_step (i.cut met start) next i.leads off;
    }
