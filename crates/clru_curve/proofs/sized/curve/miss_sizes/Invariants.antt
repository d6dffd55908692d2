use Rattle.clru_curve.proofs.SizedCurves.{IsMissedAt}
use Rattle.clru_curve.proofs.sized.curve.miss_sizes.Given as goal

abbrev pub invariant-loop-hit : goal.invariant-loop-hit
invariant-loop-hit l = record { at : IsMissedAt l.size l.fn.hits l.hits l.missed l.hit-index }
