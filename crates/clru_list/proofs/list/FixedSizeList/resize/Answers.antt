use Rattle.std.proofs.Common.{length, refl, ap, arith}
use Rattle.clru_list.proofs.Soundness.{valid_view}
use Rattle.clru_list.proofs.Steps.{sound-resize}
use Rattle.clru_list.proofs.Views.{seen_entries}
use Rattle.clru_list.proofs.Pointing.{pointed-still}
use Rattle.clru_list.proofs.list.FixedSizeList.resize.Goals as goal

pub invariant_of-self : goal.invariant_of-self
invariant_of-self g c =
    let same = ap length (seen_entries _ _ _ _ _ c.self.invariant.0 _ c.self.view_is) in
    let new = sound-resize _ _ _ _ _ c.self.invariant.0 _ (omega (arith, c.self.invariant.0.1.counted, same, c.requires)) in
    ((c.self.invariant.0.0, new), pointed-still _ _ _ _ _ _ _ _ _ _ _ _ _ c.self.invariant.0.1 new refl c.self.invariant.1)

pub returns-clause-valid : goal.returns-clause-valid
returns-clause-valid g c = valid_view _ _ _ _ _ _ (invariant_of-self g c).0.1
