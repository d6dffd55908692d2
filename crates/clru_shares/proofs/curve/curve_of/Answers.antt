use Rattle.std.proofs.Common.{sym, subst}
use Rattle.clru_shares.specs.LinePasses.{IsCurveBy, weight_of_key}
use Rattle.clru_shares.specs.declared.curve.LineCurve.TheVariants.{ByKeys, BySize}
use Rattle.clru_shares.proofs.PassLemmas.{by_keys, by_size, places_curve, sizes_curve}
use Rattle.clru_shares.proofs.curve.curve_of.Goals as goal

pub returns-in-Ok : goal.returns-in-Ok
returns-in-Ok g c sizes limit requests taken =
    let of = by_keys limit requests sizes c.args.pass.now c.in-OfKeys.pass c.in-OfKeys.is taken in
    subst (λ s. IsCurveBy {A = g.row.A.Denot} s limit requests (ByKeys c.in-Ok.curve)) (sym of.0)
    (places_curve limit requests c.in-OfKeys.pass of.1 c.in-Ok.curve (c.in-Ok.ensures.misses limit))

pub returns-in-Ok-curve : goal.returns-in-Ok-curve
returns-in-Ok-curve g c sizes limit requests taken =
    let of = by_size limit requests sizes c.args.pass.now c.in-OfSizes.pass c.in-OfSizes.is taken in
    subst (λ s. IsCurveBy {A = g.row.A.Denot} s limit requests (BySize c.in-Ok-curve.curve)) (sym of.0)
    (sizes_curve limit requests c.in-OfSizes.pass of.1 c.in-Ok-curve.curve (c.in-Ok-curve.ensures.curve weight_of_key limit))
