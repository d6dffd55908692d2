use Rattle.std.proofs.Common.{sym, rules}
use Rattle.std.specs.Prelude.{nat_eq}
use Rattle.clru_model.specs.Entries.{plain_put}
use Rattle.clru_uses.proofs.Failing.{unheld, finds, finds_none}
use Rattle.clru_uses.proofs.lends.look_for.Goals as goal

pub returns-in-Ok-clause-size : goal.returns-in-Ok-clause-size
returns-in-Ok-clause-size c =
    finds _ _ nat_eq c.args.page c.args.sizes.now.entries (λ shown r put' called. search rules) (λ shown lent left modify' called. search rules)
    c.in-Ok.ensures.called

pub returns-in-NoMemory-clause-entries : goal.returns-in-NoMemory-clause-entries
returns-in-NoMemory-clause-entries c =
    let left = rw c.in-Err.is at c.try_put_or_modify.follows.holds-at-none in
    let needs = rw c.in-NoMemory.is at c.in-Err.ensures.memory in
    (unheld nat_eq c.args.page c.args.sizes.now.entries (sym needs.absent) (rw c.in-NoMemory.is at left.0)).touched

pub returns-in-Failed-clause-size : goal.returns-in-Failed-clause-size
returns-in-Failed-clause-size c =
    let left = rw c.in-Err.is at c.try_put_or_modify.follows.holds-at-none in
    (finds_none _ _ nat_eq c.args.page c.args.sizes.now.entries _
    (λ v. plain_put nat_eq c.args.sizes.now.capacity c.args.page v c.args.sizes.now.entries) (λ shown lent left modify' called. search rules) (rw c.in-Failed.is at left.0)).absent
