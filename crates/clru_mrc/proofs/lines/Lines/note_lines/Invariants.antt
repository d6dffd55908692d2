use Rattle.std.proofs.Common.{length}
use Rattle.std.specs.Prelude.{⊤}
use Rattle.clru_mrc.proofs.lines.Lines.note_lines.Given as goal

abbrev pub invariant-lines : goal.invariant-lines
invariant-lines l = ⊤

abbrev pub decreases-lines : goal.decreases-lines
decreases-lines l = length l.left
