use Rattle.std.proofs.Common.{arith}
use Rattle.clru_linked_map.proofs.Numbers.{power_within}
use Rattle.clru_linked_map.proofs.hash_index.tags_above.Goals as goal

pub overflow_sub-result-else-is_narrow : goal.overflow_sub-result-else-is_narrow
overflow_sub-result-else-is_narrow c = power_within c.args.size c.requires.power c.ranges.size.fits

pub returns-else-is_narrow-clause-wide : goal.returns-else-is_narrow-clause-wide
returns-else-is_narrow-clause-wide c = λ f. let n = power_within c.args.size c.requires.power c.ranges.size.fits in omega (arith, n)
