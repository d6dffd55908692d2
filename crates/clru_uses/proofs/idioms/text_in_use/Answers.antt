use Rattle.std.specs.Prelude.{nat_eq}
use Rattle.clru.proofs.CallerLemmas.{lookup-lent}
use Rattle.clru_uses.proofs.idioms.text_in_use.Goals as goal

pub returns-clause-noted : goal.returns-clause-noted
returns-clause-noted c =
    lookup-lent nat_eq c.args.page c.args.pages.now.entries c.in_ok-used.ensures.value (record { text = c.in_ok-used.used.now.text; time = c.args.now })
