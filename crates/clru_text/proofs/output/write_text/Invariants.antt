use Rattle.std.proofs.Common.{◌≡◌, ℕ, List, ◌++◌, length}
use Rattle.std.specs.Io.KnownBytes.{Appends}
use Rattle.clru_text.proofs.output.write_text.Given as goal

-- the text is what is written and what is left
abbrev pub invariant-writes : goal.invariant-writes
invariant-writes g l = (written : List ℕ) × (l.text ≡ written ++ l.left)
    × Appends (g.W.Write.contents l.initial.writer) (g.W.Write.contents l.writer) written

abbrev pub decreases-writes : goal.decreases-writes
decreases-writes g l = length l.left
