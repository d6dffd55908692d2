use Rattle.clru_list.proofs.Views.{seen_front, seen_valid}
use Rattle.clru_list.proofs.list.FixedSizeList.front.Goals as goal

pub returns-clause-value : goal.returns-clause-value
returns-clause-value g c = cc (c.item.ensures, seen_front _ _ _ _ _ c.self.invariant.0 _ c.self.view_is)

pub returns-clause-valid : goal.returns-clause-valid
returns-clause-valid g c = seen_valid _ _ _ _ _ c.self.invariant.0 _ c.self.view_is
