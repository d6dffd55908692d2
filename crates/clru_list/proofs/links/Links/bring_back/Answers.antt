use Rattle.std.proofs.Common.{◌∙◌}
use Rattle.clru_list.specs.Places.{nowhere}
use Rattle.clru_list.specs.Links.{linked}
use Rattle.clru_list.proofs.links.Links.bring_back.Goals as goal

pub returns-clause-links : goal.returns-clause-links
returns-clause-links g c = c.link.ensures.links ∙ (λ i. linked (c.unlink.ensures.links i) (c.back-back.ensures i) c.args.place nowhere)
