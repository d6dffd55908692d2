use Rattle.std.specs.Prelude.{nat_eq}
use Rattle.std.specs.Cmp.{nat_eq_equiv}
use Rattle.clru.proofs.CallerLemmas.{lookup-plain_put}
use Rattle.clru_uses.proofs.pages.remember.Goals as goal

pub returns-in-Ok-clause-stored : goal.returns-in-Ok-clause-stored
returns-in-Ok-clause-stored c = rw c.in-Ok.ensures.entries (lookup-plain_put nat_eq nat_eq_equiv _ c.args.page c.args.size c.args.sizes.now.entries)
