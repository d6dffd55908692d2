use Rattle.std.proofs.Common.{reverse, subst}
use Rattle.std.proofs.lemmas.List.{reverse-reverse}
use Rattle.clru_least.specs.FloorNumbers.{IsFloorOf, IsSizeFloorOf}
use Rattle.clru_least.specs.Reuses.{IsFloorPass}
use Rattle.clru_c.specs.Objects.{same_object, weight_of}
use Rattle.clru_c.proofs.floors.floors_of.Goals as goal

pub returns-clause-misses : goal.returns-clause-misses
returns-clause-misses g c =
    let objects = c.args.objects.now in
    subst (λ rs. IsFloorOf same_object weight_of rs c.in-Ok-floor.misses) (reverse-reverse objects)
    (c.in-Ok-floor.ensures.floor weight_of (reverse objects) c.in-Ok.ensures.taken)

pub returns-clause-missed_size : goal.returns-clause-missed_size
returns-clause-missed_size g c =
    let objects = c.args.objects.now in
    subst (λ rs. IsSizeFloorOf same_object weight_of rs c.in-Ok-size_floor.sizes) (reverse-reverse objects)
    (c.in-Ok-size_floor.ensures.floor weight_of (reverse objects) c.in-Ok.ensures.taken)

pub returns-in_default-clause-never_refused : goal.returns-in_default-clause-never_refused
returns-in_default-clause-never_refused g c none =
    c.in_default.ensures.never_refused weight_of
    (subst (λ os. IsFloorPass same_object weight_of (reverse os) c.in-Ok.pass) none c.in-Ok.ensures.taken)

pub returns-in_default-size_floor-clause-never_refused : goal.returns-in_default-size_floor-clause-never_refused
returns-in_default-size_floor-clause-never_refused g c none =
    c.in_default-size_floor.ensures.never_refused weight_of
    (subst (λ os. IsFloorPass same_object weight_of (reverse os) c.in-Ok.pass) none c.in-Ok.ensures.taken)
