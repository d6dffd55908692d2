use Rattle.std.proofs.Common.{◌∙◌, subst}
use Rattle.std.specs.List.{zip}
use Rattle.clru_least.specs.FloorNumbers.{IsFloorOf, IsSizeFloorOf}
use Rattle.clru_c.specs.Objects.{same_object, weight_of}
use Rattle.clru_c.proofs.Floored.{are_floors, are_size_floors}
use Rattle.clru_c.proofs.floors.floor_by_size.Goals as goal

pub returns-clause-misses : goal.returns-clause-misses
returns-clause-misses g c _ =
    let bound = c.in-Ok-floors_of.bounds.0 in
    are_floors (zip c.args.keys.now c.args.sizes.now) c.args.rooms.now c.write_floors.new.floors bound
    (subst (λ rs. IsFloorOf same_object weight_of rs bound) (c.deref.ensures.value ∙ c.in-Ok.ensures.objects) c.in-Ok-floors_of.ensures.misses)
    c.law_floor.ensures.misses c.write_floors.ensures

pub returns-clause-missed_sizes : goal.returns-clause-missed_sizes
returns-clause-missed_sizes g c _ =
    let bound = c.in-Ok-floors_of.bounds.1 in
    are_size_floors (zip c.args.keys.now c.args.sizes.now) c.args.rooms.now c.write_size_floors.new.floors bound
    (subst (λ rs. IsSizeFloorOf same_object weight_of rs bound) (c.deref.ensures.value ∙ c.in-Ok.ensures.objects) c.in-Ok-floors_of.ensures.missed_size)
    c.law_floor.ensures.missed_size c.write_size_floors.ensures
