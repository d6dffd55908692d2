use Rattle.std.proofs.Common.{arith}
use Rattle.clru_list.proofs.Views.{seen_length, seen_valid}
use Rattle.clru_list.proofs.list.FixedSizeList.len.Goals as goal

pub returns-clause-len : goal.returns-clause-len
returns-clause-len g c = omega (arith, seen_length _ _ _ _ _ c.self.invariant.0 _ c.self.view_is)

pub returns-clause-valid : goal.returns-clause-valid
returns-clause-valid g c = seen_valid _ _ _ _ _ c.self.invariant.0 _ c.self.view_is
