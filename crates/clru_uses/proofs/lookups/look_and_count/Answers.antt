use Rattle.std.proofs.Common.{rules, nat_eq}
use Rattle.clru.proofs.CallerLemmas.{length-touch}
use Rattle.clru_uses.proofs.lookups.look_and_count.Goals as goal

pub returns : goal.returns
returns c = let same = length-touch nat_eq c.args.page.now c.args.sizes.now.entries in search (rules, same)
