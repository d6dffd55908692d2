use Rattle.clru_list.proofs.Views.{seen_valid}
use Rattle.clru_list.proofs.list.FixedSizeList.keep_if.Goals as goal

pub returns-else-not-keep-clause-valid : goal.returns-else-not-keep-clause-valid
returns-else-not-keep-clause-valid g c = seen_valid _ _ _ _ _ c.self.invariant.0 _ c.self.view_is
