use Rattle.clru_least.proofs.SizeSums.{AreStepsUpTo}
use Rattle.clru_least.proofs.size_floor.add_up.Given as goal

abbrev pub invariant-loop-step : goal.invariant-loop-step
invariant-loop-step l = record { at : AreStepsUpTo l.fn.steps l.steps l.size l.volume l.step-index }
