use Rattle.clru_list.proofs.links.Links.release.Goals as goal

pub returns-clause-links : goal.returns-clause-links
returns-clause-links g c = λ i. record (c.write_next.ensures.links i) { free = c.args.place }
