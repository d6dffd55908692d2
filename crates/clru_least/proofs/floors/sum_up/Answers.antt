use Rattle.std.proofs.Common.{arith}
use Rattle.clru_least.proofs.Sums.{sum_fits, sum_step}
use Rattle.clru_least.proofs.floors.sum_up.Goals as goal

pub overflow_add-sum : goal.overflow_add-sum
overflow_add-sum c =
    omega (
      arith,
      sum_fits c.args.numbers.now c.loop-number.numbers c.loop-number.sum c.loop-number.number-index
          (omega (arith, c.loop-number-test.true)) c.loop-number.invariant.at,
      c.requires,
    )

pub loop-number-preserved : goal.loop-number-preserved
loop-number-preserved c = record {
  at = sum_step c.args.numbers.now c.loop-number.numbers c.loop-number.sum c.loop-number.number-index
      (omega (arith, c.loop-number-test.true)) (omega (arith, c.loop-number.auto.numbers)) c.loop-number.invariant.at;
}
