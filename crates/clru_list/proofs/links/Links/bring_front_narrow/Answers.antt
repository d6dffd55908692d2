use Rattle.std.proofs.Common.{arith, sym, ap, ◌∙◌}
use Rattle.std.proofs.lemmas.List.{with_items_is}
use Rattle.std.specs.Vec.{with_items}
use Rattle.clru_list.specs.Links.{narrow_links, brought_front}
use Rattle.clru_list.proofs.NarrowLinks.{links_of-narrow}
use Rattle.clru_list.proofs.links.Links.bring_front_narrow.Goals as goal

pub returns-clause-links : goal.returns-clause-links
returns-clause-links g c =
    let s = c.args.self.now in let p = c.args.place in let none = c.requires.narrow in let new = c.bring_front.new in let e = c.bring_front.ensures in
    let same = with_items_is s.nodes new.nodes (omega (arith, e.len, c.as_mut_slice-nodes.ensures.len)) in
    links_of-narrow (record s { nodes = with_items s.nodes new.nodes; front = new.front; back = new.back }) none
    ∙ ap (λ ns. narrow_links ns new.front new.back s.free) same ∙ e.links s.free
    ∙ ap (λ ns. brought_front (narrow_links ns s.front s.back s.free) p) c.as_mut_slice-nodes.ensures.value
    ∙ sym (ap (λ l. brought_front l p) (links_of-narrow s none))
