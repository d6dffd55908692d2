use Rattle.std.proofs.Common.{arith}
use Rattle.clru_curve.specs.SizedCurves.{missed_size_within}
use Rattle.clru_report.proofs.OffLines.{furthest_is}
use Rattle.clru_report.proofs.sized.faithful.furthest_by_size.Goals as goal

pub returns-then-found-near-clause-found : goal.returns-then-found-near-clause-found
returns-then-found-near-clause-found g c =
    let found = c.greatest_by_size-found in
    furthest_is (missed_size_within c.args.curve.now) c.args.whole c.args.a c.args.b found.result.0 found.result.1
    (found.ensures.far c.if-found-near.true) (omega (arith, c.if-found-near.true, c.product-near.ensures))
