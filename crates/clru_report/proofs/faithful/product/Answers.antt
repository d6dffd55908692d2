use Rattle.std.proofs.Common.{◌^◌, arith}
use Rattle.std.proofs.lemmas.Nat.{mul-lt}
use Rattle.clru_report.proofs.faithful.product.Goals as goal

pub overflow_mul-result : goal.overflow_mul-result
overflow_mul-result c = omega (arith, mul-lt c.args.a c.args.b (2 ^ 64) (2 ^ 64) c.ranges.a.fits c.ranges.b.fits)
