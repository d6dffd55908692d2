use Rattle.std.proofs.Common.{sym, subst, arith}
use Rattle.clru_curve.proofs.LatestSizes.{total_zero}
use Rattle.clru_curve.specs.SizedAgedPasses.{IsSizedAgedPass}
use Rattle.clru_curve.proofs.sized.aged.SizedAgedPass.distinct_size.Goals as goal

pub total-requires : goal.total-requires
total-requires g c = omega (arith, total_zero c.self.inside.latest.sizes.items, c.self.invariant.2.sound.held, c.self.invariant.2.sound.fits)

pub returns : goal.returns
returns g c w cs idle age past before =
    let is = subst (λ v. IsSizedAgedPass g.K.PartialEq.eq w cs idle age past v) (sym c.self.view_is) before in
    omega (arith, c.total.ensures, total_zero c.self.inside.latest.sizes.items, is.held)
