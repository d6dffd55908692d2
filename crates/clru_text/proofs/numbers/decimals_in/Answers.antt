use Rattle.std.proofs.Common.{length, arith, lit<}
use Rattle.std.proofs.Math.Nat.{one-le-pow}
use Rattle.clru_text.proofs.numbers.decimals_in.Goals as goal

pub nonzero_div-part : goal.nonzero_div-part
nonzero_div-part c = omega (arith, c.pow.ensures, one-le-pow (length c.args.decimals.now) 10 (lit< tt))
