use Rattle.std.proofs.Common.{◌∙◌}
use Rattle.std.specs.Int.NonZero.{non_zero_usize_get}
use Rattle.clru_uses.proofs.curves.misses_of.Goals as goal

pub returns : goal.returns
returns c = c.misses.ensures ∙ c.in_ok-curve.ensures.misses (non_zero_usize_get c.args.capacity) c.args.capacity.ok
