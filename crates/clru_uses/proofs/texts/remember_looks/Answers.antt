use Rattle.std.specs.String.{string_eq, string_eq_equiv}
use Rattle.clru.proofs.CallerLemmas.{lookup-plain_put}
use Rattle.clru_uses.proofs.texts.remember_looks.Goals as goal

pub returns-in-Ok-clause-stored : goal.returns-in-Ok-clause-stored
returns-in-Ok-clause-stored c = rw c.in-Ok.ensures.entries (lookup-plain_put string_eq string_eq_equiv _ c.args.page c.args.times c.args.looks.now.entries)
