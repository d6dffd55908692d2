use Rattle.clru_c.proofs.Objects.{same_weights}
use Rattle.clru_c.proofs.sized.curve_of.Goals as goal

pub returns-clause-curve : goal.returns-clause-curve
returns-clause-curve g c = c.sized_curve.ensures.curve same_weights
