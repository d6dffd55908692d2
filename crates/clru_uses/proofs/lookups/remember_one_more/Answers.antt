use Rattle.std.proofs.Common.{rules, ◌≤◌, nat_eq, length, arith}
use Rattle.clru.proofs.CallerLemmas.{length-plain_put}
use Rattle.clru_uses.proofs.lookups.remember_one_more.Goals as goal

pub returns-then-is_none : goal.returns-then-is_none
returns-then-is_none c =
    let es = c.args.sizes.now.entries in let size = c.args.sizes.now.capacity in
    let fits : length es ≤ size = omega (arith, c.len.ensures.valid.fits) in
    let number = length-plain_put nat_eq size c.args.page c.args.size es fits c.len.ensures.valid.some in
    search (rules, arith, number)

pub returns-else-is_none : goal.returns-else-is_none
returns-else-is_none c =
    let es = c.args.sizes.now.entries in let size = c.args.sizes.now.capacity in
    let fits : length es ≤ size = omega (arith, c.len.ensures.valid.fits) in
    let number = length-plain_put nat_eq size c.args.page c.args.size es fits c.len.ensures.valid.some in
    search (rules, arith, number)
