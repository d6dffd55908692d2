use Rattle.clru_list.proofs.Views.{seen_last, seen_valid}
use Rattle.clru_list.proofs.list.FixedSizeList.back_idx.Goals as goal

pub returns-clause-place : goal.returns-clause-place
returns-clause-place g c = cc (c.some_place.ensures, seen_last _ _ _ _ _ c.self.invariant.0 _ c.self.view_is)

pub returns-clause-valid : goal.returns-clause-valid
returns-clause-valid g c = seen_valid _ _ _ _ _ c.self.invariant.0 _ c.self.view_is
