use Rattle.std.proofs.Common.{ap, arith}
use Rattle.clru_list.proofs.Views.{seen, seen_valid}
use Rattle.clru_list.proofs.list.FixedSizeList.grown_places.Goals as goal

pub returns-clause-grown : goal.returns-clause-grown
returns-clause-grown g c =
    let sees = seen _ _ _ _ _ c.self.invariant.0 _ c.self.view_is in omega (arith, ap (λ l. l.places) sees, ap (λ l. l.capacity) sees)

pub returns-clause-valid : goal.returns-clause-valid
returns-clause-valid g c = seen_valid _ _ _ _ _ c.self.invariant.0 _ c.self.view_is
