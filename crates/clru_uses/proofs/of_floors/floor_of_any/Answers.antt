use Rattle.std.proofs.Common.{refl, arith}
use Rattle.std.specs.Int.NonZero.{non_zero_usize_get}
use Rattle.clru_uses.proofs.of_floors.floor_of_any.Goals as goal

pub returns-clause-none_fewer : goal.returns-clause-none_fewer
returns-clause-none_fewer g c schedule serves =
    let h = non_zero_usize_get c.args.room in
    omega (
      arith,
      c.misses.ensures,
      c.in_ok-bound.ensures.floor h,
      c.law_floor.ensures.misses (λ _. 0) h schedule c.args.keys.now (λ _ _ _. refl) serves,
    )

pub returns-clause-below_least : goal.returns-clause-below_least
returns-clause-below_least g c m least =
    let h = non_zero_usize_get c.args.room in
    omega (arith, c.misses.ensures, c.in_ok-bound.ensures.floor h, c.law_floor.ensures.below_least h m c.args.keys.now least)
