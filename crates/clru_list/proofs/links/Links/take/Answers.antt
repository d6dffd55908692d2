use Rattle.std.proofs.Common.{ap, ◌∙◌, refl, arith, vec_len, ◌<◌}
use Rattle.clru_list.specs.Links.{links_of, set_item}
use Rattle.clru_list.proofs.NodeLemmas.{links_of-set_item}
use Rattle.clru_list.proofs.links.Links.take.Goals as goal

pub returns-in-Some-clause-links : goal.returns-in-Some-clause-links
returns-in-Some-clause-links g c =
    let s = c.args.self.now in let at = c.args.place in let e = c.in-Some.ensures in let ok = s.nodes.ok in let small = s.nodes.small in
    let long : at < vec_len s.nodes = omega (arith, e.variant.0 refl) in
    links_of-set_item s at c.in-Some.node.now long (λ h. absurd (omega arith)) e.value c.take.new.self
    ∙ ap (set_item (links_of s) at) c.take.ensures.after
