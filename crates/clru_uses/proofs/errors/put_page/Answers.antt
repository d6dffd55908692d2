use Rattle.std.proofs.Common.{rules, ◌≡◌, true}
use Rattle.std.specs.Prelude.{nat_eq, is_ok}
use Rattle.std.specs.Cmp.{nat_eq_equiv}
use Rattle.clru.proofs.CallerLemmas.{lookup-plain_put}
use Rattle.clru_uses.proofs.errors.put_page.Goals as goal

pub returns-clause-stored : goal.returns-clause-stored
returns-clause-stored c =
    let ok : is_ok c.put.result ≡ true = search rules in
    rw c.put.ensures.entries (rw ok (lookup-plain_put nat_eq nat_eq_equiv _ c.args.page c.args.size c.args.sizes.now.entries))
