use Rattle.std.proofs.Common.{refl, sym, ◌∙◌, subst, arith}
use Rattle.clru_curve.proofs.LatestSizes.{total_zero}
use Rattle.clru_curve.proofs.SizedIdlePassing.{IsSizedIdleCurveOf-by}
use Rattle.clru_curve.specs.SizedIdlePasses.{IsSizedIdlePass}
use Rattle.clru_curve.proofs.sized.idle.SizedIdlePass.curve.Goals as goal

pub total-requires : goal.total-requires
total-requires g c = omega (arith, total_zero c.self.inside.latest.sizes.items, c.self.invariant.held, c.self.invariant.fits)

pub returns-clause-curve : goal.returns-clause-curve
returns-clause-curve g c w idle past is =
    let eq = g.K.PartialEq.eq in
    IsSizedIdleCurveOf-by eq w idle past _ c.from_hits.result c.in-Ok.hits.items c.self.inside.latest.requests c.total.result
    (subst (λ v. IsSizedIdlePass eq w idle past v) (sym c.self.view_is) is)
    (c.in-Ok.ensures.items ∙ c.deref.ensures.value) refl (c.total.ensures ∙ sym (total_zero c.self.inside.latest.sizes.items)) c.from_hits.ensures
