use Rattle.std.proofs.Common.{arith}
use Rattle.clru_list.proofs.NarrowLinks.{narrow-set_next}
use Rattle.clru_list.proofs.narrow.write_next.Goals as goal

pub returns-clause-links : goal.returns-clause-links
returns-clause-links g c = λ front back free.
    let r = c.requires in narrow-set_next c.args.nodes.now front back free c.args.at r.at (λ e. absurd (omega (arith, r.narrow, r.at))) c.index-nodes-at.result c.args.to
