use Rattle.std.proofs.Common.{rules}
use Rattle.clru_list.proofs.Windows.{whole}
use Rattle.clru_list.proofs.list.FixedSizeList.iter.Goals as goal

pub invariant_of-result : goal.invariant_of-result
invariant_of-result g c = search (rules, whole)
