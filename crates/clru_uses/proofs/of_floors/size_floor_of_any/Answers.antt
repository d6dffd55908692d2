use Rattle.std.proofs.Common.{reverse, arith, subst}
use Rattle.std.proofs.lemmas.List.{reverse-reverse}
use Rattle.std.specs.Int.NonZero.{non_zero_usize_get}
use Rattle.clru_least.specs.FloorNumbers.{IsFloorOf, IsSizeFloorOf}
use Rattle.clru_uses.proofs.of_floors.size_floor_of_any.Goals as goal

pub returns-clause-none_fewer : goal.returns-clause-none_fewer
returns-clause-none_fewer g c same schedule serves =
    let h = non_zero_usize_get c.args.room in let eq = g.K.PartialEq.eq in
    let w = λ (x : g.row.K.Denot). g.W.WeightScale.weight c.args.scale x tt in
    let is = subst (λ rs. IsFloorOf eq w rs c.in-Ok-floor.bound) (reverse-reverse c.args.keys.now)
    (c.in-Ok-floor.ensures.floor w (reverse c.args.keys.now) c.in-Ok.ensures.taken) in
    omega (arith, c.misses.ensures, is h, c.law_floor.ensures.misses w h schedule c.args.keys.now same serves)

pub returns-clause-none_less : goal.returns-clause-none_less
returns-clause-none_less g c same schedule serves =
    let h = non_zero_usize_get c.args.room in let eq = g.K.PartialEq.eq in
    let w = λ (x : g.row.K.Denot). g.W.WeightScale.weight c.args.scale x tt in
    let is = subst (λ rs. IsSizeFloorOf eq w rs c.in-Ok-size_floor.size_bound) (reverse-reverse c.args.keys.now)
    (c.in-Ok-size_floor.ensures.floor w (reverse c.args.keys.now) c.in-Ok.ensures.taken) in
    omega (arith, c.missed_size.ensures, is h, c.law_floor.ensures.missed_size w h schedule c.args.keys.now same serves)
