use Rattle.std.specs.Cmp.{nat_eq_equiv}
use Rattle.clru.proofs.CallerLemmas.{lookup-without}
use Rattle.clru_uses.proofs.pages.forget.Goals as goal

pub returns-clause-gone : goal.returns-clause-gone
returns-clause-gone c = rw c.pop.ensures.entries (lookup-without nat_eq_equiv c.args.page c.args.sizes.now.entries c.len.ensures.valid.distinct)
