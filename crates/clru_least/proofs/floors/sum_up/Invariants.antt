use Rattle.clru_least.proofs.Sums.{AreSumsUpTo}
use Rattle.clru_least.proofs.floors.sum_up.Given as goal

abbrev pub invariant-loop-number : goal.invariant-loop-number
invariant-loop-number l = record { at : AreSumsUpTo l.fn.numbers l.numbers l.sum l.number-index }
