use Rattle.std.proofs.Common.{IfOk, reverse, subst}
use Rattle.std.proofs.lemmas.List.{reverse-reverse}
use Rattle.clru_least.specs.FloorNumbers.{IsFloorOf}
use Rattle.clru_least.specs.Reuses.{IsFloorPass}
use Rattle.clru_least.proofs.floor_keys.floor.Goals as goal

pub returns-clause-floor : goal.returns-clause-floor
returns-clause-floor g c =
    let keys = c.args.keys.now in
    subst (λ rs. IfOk c.floor.result (IsFloorOf g.K.PartialEq.eq (λ _. 0) rs)) (reverse-reverse keys)
    (c.floor.ensures.floor (λ _. 0) (reverse keys) c.in-Ok.ensures.taken)

pub returns-clause-never_refused : goal.returns-clause-never_refused
returns-clause-never_refused g c none =
    c.floor.ensures.never_refused (λ _. 0) (subst (λ ks. IsFloorPass g.K.PartialEq.eq (λ _. 0) (reverse ks) c.in-Ok.pass) none c.in-Ok.ensures.taken)
