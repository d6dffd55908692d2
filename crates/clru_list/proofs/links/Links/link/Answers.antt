use Rattle.std.proofs.Common.{ap}
use Rattle.clru_list.specs.Links.{set_next, set_prev}
use Rattle.clru_list.proofs.links.Links.link.Goals as goal

pub returns-clause-links : goal.returns-clause-links
returns-clause-links g c =
    let place = c.args.place in let prev = c.args.prev in let next = c.args.next in
    cc (
      c.set_prev.ensures.links,
      ap (λ l. set_prev l next place) c.set_next.ensures.links,
      ap (λ l. set_prev (set_next l prev place) next place) c.write_prev.ensures.links,
      ap (λ l. set_prev (set_next (set_prev l place prev) prev place) next place) c.write_next.ensures.links,
    )
