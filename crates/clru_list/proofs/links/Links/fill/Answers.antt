use Rattle.std.proofs.Common.{◌≡◌, ap, ◌∙◌, arith}
use Rattle.clru_list.specs.Places.{nowhere}
use Rattle.clru_list.specs.Links.{links_of, set_item}
use Rattle.clru_list.proofs.NodeLemmas.{links_of-set_item}
use Rattle.clru_list.proofs.links.Links.fill.Goals as goal

pub returns-clause-links : goal.returns-clause-links
returns-clause-links g c =
    let s = c.args.self.now in let n = c.index_mut-node.result.now in let h = c.index_mut-node.ensures.value in let ok = s.nodes.ok in let small = s.nodes.small in
    let ne : s.free ≡ nowhere → ⊥ = λ e. absurd (omega (arith, c.requires.place)) in
    let links = links_of-set_item s s.free n c.requires.place ne h c.replace.new.self ∙ ap (set_item (links_of s) s.free) c.replace.ensures.after in
    λ i. record (links i) { free = c.next-next.ensures i }
