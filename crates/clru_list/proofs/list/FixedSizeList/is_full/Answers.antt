use Rattle.std.proofs.Common.{ap, arith}
use Rattle.std.proofs.lemmas.Bool.{eqb-true, eq-eqb}
use Rattle.clru_list.proofs.Views.{seen, seen_length, seen_valid}
use Rattle.clru_list.proofs.list.FixedSizeList.is_full.Goals as goal

pub returns-clause-full : goal.returns-clause-full
returns-clause-full g c =
    let len = seen_length _ _ _ _ _ c.self.invariant.0 _ c.self.view_is in let capacity = ap (λ l. l.capacity) (seen _ _ _ _ _ c.self.invariant.0 _ c.self.view_is) in
    (λ h. omega (arith, len, capacity, eqb-true _ _ h), λ h. eq-eqb _ _ (omega (arith, len, capacity, h)))

pub returns-clause-valid : goal.returns-clause-valid
returns-clause-valid g c = seen_valid _ _ _ _ _ c.self.invariant.0 _ c.self.view_is
