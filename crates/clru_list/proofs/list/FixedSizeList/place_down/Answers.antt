use Rattle.clru_list.proofs.Views.{seen_valid}
use Rattle.clru_list.proofs.list.FixedSizeList.place_down.Goals as goal

pub returns-in-Some-clause-valid : goal.returns-in-Some-clause-valid
returns-in-Some-clause-valid g c = seen_valid _ _ _ _ _ c.self.invariant.0 _ c.self.view_is

pub returns-clause-valid : goal.returns-clause-valid
returns-clause-valid g c = seen_valid _ _ _ _ _ c.self.invariant.0 _ c.self.view_is
