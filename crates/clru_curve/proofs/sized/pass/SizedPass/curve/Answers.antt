use Rattle.std.proofs.Common.{refl, sym, ◌∙◌, subst, arith}
use Rattle.clru_curve.proofs.LatestSizes.{total_zero}
use Rattle.clru_curve.proofs.SizedCurves.{IsSizedCurveOf-by}
use Rattle.clru_curve.specs.SizedPasses.{IsSizedPass}
use Rattle.clru_curve.proofs.sized.pass.SizedPass.curve.Goals as goal

pub total-requires : goal.total-requires
total-requires g c = omega (arith, total_zero c.self.inside.latest.sizes.items, c.self.invariant.held, c.self.invariant.fits)

pub returns-clause-curve : goal.returns-clause-curve
returns-clause-curve g c w past is =
    let eq = g.K.PartialEq.eq in
    IsSizedCurveOf-by eq w past _ c.from_hits.result c.in-Ok.hits.items c.self.inside.latest.requests c.total.result
    (subst (λ v. IsSizedPass eq w past v) (sym c.self.view_is) is)
    (c.in-Ok.ensures.items ∙ c.deref.ensures.value) refl (c.total.ensures ∙ sym (total_zero c.self.inside.latest.sizes.items)) c.from_hits.ensures
