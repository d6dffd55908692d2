use Rattle.std.specs.Prelude.{nat_eq}
use Rattle.clru.proofs.CallerLemmas.{lookup-lent}
use Rattle.clru_uses.proofs.lends.correct.Goals as goal

pub returns-in-Some-clause-written : goal.returns-in-Some-clause-written
returns-in-Some-clause-written c _ = lookup-lent nat_eq c.args.page c.args.sizes.now.entries c.in-Some.ensures.value c.args.size
