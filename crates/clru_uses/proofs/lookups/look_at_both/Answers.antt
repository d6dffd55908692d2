use Rattle.std.proofs.Common.{rules}
use Rattle.std.specs.Cmp.{nat_eq_equiv}
use Rattle.clru.proofs.CallerLemmas.{lookup-touch}
use Rattle.clru_uses.proofs.lookups.look_at_both.Goals as goal

pub returns : goal.returns
returns c =
    let same = lookup-touch nat_eq_equiv c.args.page.now c.args.other.now c.args.sizes.now.entries c.len.ensures.valid.distinct in
    search (rules, same)
