use Rattle.std.proofs.Common.{◌≡◌, ℕ, List, length}
use Rattle.clru_log.specs.Cutting.{ready_with}
use Rattle.clru_log.proofs.cutter.Cutter.cut_lines.Given as goal

-- what is to come stays the same
abbrev pub invariant-lines : goal.invariant-lines
invariant-lines g l = ((more : List ℕ) → ready_with l.self more ≡ ready_with l.initial.self more) × (l.self.ended ≡ l.initial.self.ended)

abbrev pub decreases-lines : goal.decreases-lines
decreases-lines g l = length l.self.input
