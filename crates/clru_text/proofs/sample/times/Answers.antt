use Rattle.std.proofs.Common.{◌*◌, ap, arith}
use Rattle.clru_text.proofs.sample.times.Goals as goal

pub returns : goal.returns
returns c = omega (arith, c.min.ensures, c.saturating_mul.ensures, ap (λ n. c.args.number * n) c.get.ensures.value)
