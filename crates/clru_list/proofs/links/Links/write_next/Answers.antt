use Rattle.std.proofs.Common.{◌<◌, ◌≤◌, vec_len, arith}
use Rattle.clru_list.proofs.NodeLemmas.{named, lower_alone, links_of-write_next, links_of-write_next_wide}
use Rattle.clru_list.proofs.links.Links.write_next.Goals as goal

pub returns-then-at-len-clause-links : goal.returns-then-at-len-clause-links
returns-then-at-len-clause-links g c =
    let s = c.args.self.now in let small = s.nodes.small in let r = c.requires in let to = c.halves-lower in
    let wide : c.args.at < vec_len s.upper = omega (arith, c.if-at-len.true, c.len.ensures) in
    links_of-write_next_wide s c.args.at c.index_mut.result.now r.at (λ e. absurd (omega (arith, r.at))) c.index_mut.ensures.value
    c.index_mut-then-at-len.result.now wide c.index_mut-then-at-len.ensures.value to.result.0 to.result.1 c.args.to to.ensures

pub returns-else-at-len-clause-links : goal.returns-else-at-len-clause-links
returns-else-at-len-clause-links g c =
    let s = c.args.self.now in let small = s.nodes.small in let r = c.requires in let to = c.halves-lower in
    let none : vec_len s.upper ≤ c.args.at = omega (arith, c.if-at-len.false, c.len.ensures) in
    links_of-write_next s c.args.at c.index_mut.result.now r.at (λ e. absurd (omega (arith, r.at))) c.index_mut.ensures.value none to.result.0 c.args.to
    (lower_alone to.result.0 to.result.1 c.args.to (omega arith) (omega arith) to.ensures (named s c.args.at c.args.to r.at r.to r.allotted none))
