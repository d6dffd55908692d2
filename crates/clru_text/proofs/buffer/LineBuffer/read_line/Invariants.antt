use Rattle.std.proofs.Common.{◌≡◌, ◌<◌, ◌-◌, ◌^◌, ℕ, List, Option, false, ◌++◌}
use Rattle.clru_text.specs.LinesRead.{HasBegun, HasReturned, IsFree}
use Rattle.clru_text.proofs.buffer.LineBuffer.read_line.Given as goal

-- the lines that were returned at first are still returned; then comes the beginning of a line
abbrev pub invariant-pieces : goal.invariant-pieces
invariant-pieces g l = IsFree l.line.items × (l.self.ended ≡ false) × (l.self.read < 2 ^ 64)
    × ((start : Option (List ℕ)) (lines : List (List ℕ)) → HasReturned start (g.R.Read.remaining l.initial.reader) l.initial.self lines
    → HasBegun start (g.R.Read.remaining l.reader) l.self.read (l.line.items ++ l.self.left) lines)

abbrev pub decreases-pieces : goal.decreases-pieces
decreases-pieces g l = 2 ^ 64 - l.self.read
