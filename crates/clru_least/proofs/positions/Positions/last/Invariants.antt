use Rattle.clru_least.specs.Positions.{first_of}
use Rattle.clru_least.proofs.BitTrees.{IsLastOf}
use Rattle.clru_least.proofs.positions.Positions.last.Given as goal

abbrev pub invariant-loop-level : goal.invariant-loop-level
invariant-loop-level g l = IsLastOf (first_of l._level) l.node l.self.words.items
