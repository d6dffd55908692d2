use Rattle.std.proofs.Common.{refl, arith}
use Rattle.clru_least.proofs.SizeSums.{step_more}
use Rattle.clru_least.proofs.size_floor.add_up.Goals as goal

pub loop-step-preserved : goal.loop-step-preserved
loop-step-preserved c = record {
  at = step_more c.args.steps.now c.loop-step.steps c.loop-step.size c.loop-step.volume c.loop-step.step-index
      (omega (arith, c.loop-step-test.true)) c.loop-step.invariant.at (omega (arith, c.loop-step.auto.steps)) _ refl;
}
