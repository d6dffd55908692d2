use Rattle.std.proofs.Common.{arith, sym, ap, ◌∙◌, inl, inr}
use Rattle.clru_list.specs.Places.{place_by}
use Rattle.clru_list.specs.Links.{narrow_links, set_prev}
use Rattle.clru_list.proofs.NodeLemmas.{place_by-none, place_by-some}
use Rattle.clru_list.proofs.NarrowLinks.{narrow-back}
use Rattle.clru_list.proofs.narrow.write_prev_or_back.Goals as goal

pub write_prev-requires-clause-at : goal.write_prev-requires-clause-at
write_prev-requires-clause-at g c =
    let some = place_by-some c.args.number c.if-number-eq0.false in let at = c.place_numbered.ensures in
    elim c.requires.at [ inl e ↦ absurd (omega (arith, some, e, c.ranges.number)) | inr lt ↦ omega (arith, lt, at) ]

pub returns-then-number-eq0-clause-links : goal.returns-then-number-eq0-clause-links
returns-then-number-eq0-clause-links g c = λ front free.
    let old = narrow_links c.args.nodes.now front c.args.back.now free in let to = c.args.to in
    narrow-back c.args.nodes.now front c.args.back.now free to
    ∙ sym (ap (λ p. set_prev old p (place_by to 0)) (ap (λ n. place_by n 0) c.if-number-eq0.true ∙ place_by-none))

pub returns-else-number-eq0-clause-links : goal.returns-else-number-eq0-clause-links
returns-else-number-eq0-clause-links g c = λ front free.
    let old = narrow_links c.args.nodes.now front c.args.back.now free in
    c.write_prev.ensures.links front c.args.back.now free ∙ ap (λ p. set_prev old p (place_by c.args.to 0)) c.place_numbered.ensures
