use Rattle.std.proofs.Common.{refl, sym, ◌∙◌, subst, arith}
use Rattle.clru_curve.specs.SizedPositionPasses.{IsSizedPositionPass}
use Rattle.clru_curve.proofs.LatestSizes.{total_zero}
use Rattle.clru_curve.proofs.SizedPositionPassing.{curve_taken, curve_timeless}
use Rattle.clru_curve.proofs.sized.position.SizedPositionPass.into_curve.Goals as goal

pub total-requires : goal.total-requires
total-requires g c = omega (arith, total_zero c.self.inside.latest.sizes.items, c.self.invariant.held, c.self.invariant.fits)

pub returns-clause-curve : goal.returns-clause-curve
returns-clause-curve g c w idle past is =
    let eq = g.K.PartialEq.eq in let latest = c.self.inside.latest in
    curve_taken eq w idle past _ (subst (IsSizedPositionPass eq w idle past) (sym c.self.view_is) is)
    c.from_hits.result c.self.inside.hits.items latest.requests c.total.result refl refl
    (c.total.ensures ∙ sym (total_zero latest.sizes.items)) c.from_hits.ensures

pub returns-clause-timeless : goal.returns-clause-timeless
returns-clause-timeless g c w idle past same timeless is =
    let eq = g.K.PartialEq.eq in let latest = c.self.inside.latest in
    curve_timeless eq w idle past _ (subst (IsSizedPositionPass eq w idle past) (sym c.self.view_is) is)
    c.from_hits.result c.self.inside.hits.items latest.requests c.total.result refl refl
    (c.total.ensures ∙ sym (total_zero latest.sizes.items)) c.from_hits.ensures g.met.K.Eq.laws same timeless
