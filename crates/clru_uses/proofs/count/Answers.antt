use Rattle.std.proofs.Common.{IsOk, refl}
use Rattle.std.specs.Prelude.{nat_eq}
use Rattle.std.specs.Cmp.{nat_eq_equiv}
use Rattle.clru.proofs.CallerLemmas.{lookup-plain_put}
use Rattle.clru_uses.proofs.count.Goals as goal

pub returns-in-Ok : goal.returns-in-Ok
returns-in-Ok c =
    let ok : IsOk c.put_or_modify.result = rw c.in-Ok.is refl in
    record {
      written = rw (c.put_or_modify.follows.holds c.saturating_add.result ok).0
          (lookup-plain_put nat_eq nat_eq_equiv _ c.args.page c.saturating_add.result c.args.looks.now.entries);
    }
