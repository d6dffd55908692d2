use Rattle.std.proofs.Common.{arith}
use Rattle.clru_curve.proofs.LatestSizes.{sizes_none}
use Rattle.clru_curve.proofs.sized.sizes.Sizes.total.Goals as goal

pub returns : goal.returns
returns g c = omega (arith, c.sum_between.ensures, sizes_none c.args.self.now.sizes.items c.len.result (omega (arith, c.len.ensures)))
