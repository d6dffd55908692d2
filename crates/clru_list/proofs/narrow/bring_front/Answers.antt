use Rattle.std.proofs.Common.{◌≡◌, arith, sym, ◌∙◌}
use Rattle.clru_list.specs.Places.{nowhere}
use Rattle.clru_list.specs.Links.{narrow_links, set_next, set_prev}
use Rattle.clru_list.proofs.NodeLemmas.{place_by-none, place_by-below}
use Rattle.clru_list.proofs.NarrowLinks.{narrow-next, narrow-prev, narrow-front}
use Rattle.clru_list.proofs.narrow.bring_front.Goals as goal

pub overflow_cast-first : goal.overflow_cast-first
overflow_cast-first g c = let r = c.requires in let below = place_by-below c.args.front.now (omega (arith, r.front, r.narrow)) in omega (arith, below)

pub overflow_cast-number : goal.overflow_cast-number
overflow_cast-number g c =
    let r = c.requires in let below = place_by-below c.number_of-number.result (omega (arith, c.number_of-number.ensures, r.place, r.narrow)) in omega (arith, below)

pub returns-clause-links : goal.returns-clause-links
returns-clause-links g c = λ free.
    let ns = c.args.nodes.now in let f = c.args.front.now in let b = c.args.back.now in let p = c.args.place in let r = c.requires in
    let l = narrow_links ns f b free in let back = c.write_prev_or_back.new.back in let number = c.number_of-number in
    let ne : p ≡ nowhere → ⊥ = λ e. absurd (omega (arith, r.narrow, r.place)) in
    let before = sym (narrow-prev ns f b free p r.place ne c.index-nodes-place.result) in
    let behind = sym (narrow-next ns f b free p r.place ne c.index-nodes-place-2.result) in
    let cut = c.write_next.ensures.links f b free ∙ (λ i. set_next l ((c.place_numbered.ensures ∙ before) i) (behind i)) in
    let out = c.write_prev_or_back.ensures.links f free ∙ (λ i. set_prev (cut i) (behind i) (before i)) in
    let ahead = c.write_next-2.ensures.links f back free ∙ (λ i. set_next (out i) p (l.next nowhere)) in
    let first = c.write_prev.ensures.links f back free ∙ (λ i. set_prev (ahead i) p (place_by-none i)) in
    let known = c.write_prev-2.ensures.links f back free ∙ (λ i. set_prev (first i) (c.place_numbered-2.ensures i) (number.ensures i)) in
    narrow-front c.write_prev-2.new.nodes f back free number.result ∙ (λ i. set_next (known i) nowhere (number.ensures i))
