use Rattle.clru_list.proofs.NodeLemmas.{links_of-moved}
use Rattle.clru_list.proofs.links.Links.reserve.Goals as goal

pub returns-clause-links : goal.returns-clause-links
returns-clause-links g c =
    let e = c.reserve_exact.ensures in
    links_of-moved c.args.self.now c.reserve_exact.new.self c.widen.new.upper e.items e.len c.widen.ensures.next c.widen.ensures.prev
