use Rattle.clru_least.proofs.BitTrees.{IsHighest_zeros}
use Rattle.clru_least.proofs.positions.last_bit.Goals as goal

pub returns-clause-set : goal.returns-clause-set
returns-clause-set c = (IsHighest_zeros c.args.word c.requires c.ranges.word.fits).set

pub returns-clause-highest : goal.returns-clause-highest
returns-clause-highest c = (IsHighest_zeros c.args.word c.requires c.ranges.word.fits).highest
