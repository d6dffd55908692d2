use Rattle.std.proofs.Common.{arith}
use Rattle.clru_curve.proofs.SizedCurves.{missed_step, missed_fits}
use Rattle.clru_curve.proofs.sized.curve.miss_sizes.Goals as goal

pub overflow_sub-missed : goal.overflow_sub-missed
overflow_sub-missed c =
    let at = c.loop-hit.invariant.at in
    omega (
      arith,
      missed_fits c.args.size c.args.hits.now c.loop-hit.hits c.loop-hit.missed c.loop-hit.hit-index c.requires.within
          (omega (arith, c.loop-hit-test.true)) at,
    )

pub loop-hit-preserved : goal.loop-hit-preserved
loop-hit-preserved c = record {
  at = missed_step c.args.size c.args.hits.now c.loop-hit.hits c.loop-hit.missed c.loop-hit.hit-index c.requires.within
      (omega (arith, c.loop-hit.auto.hits)) (omega (arith, c.loop-hit-test.true)) c.loop-hit.invariant.at;
}
