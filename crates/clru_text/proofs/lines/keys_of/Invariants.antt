use Rattle.std.proofs.Common.{◌≡◌, ◌++◌, map, length}
use Rattle.clru_text.specs.Lines.{lines_of}
use Rattle.clru_text.proofs.lines.keys_of.Given as goal

abbrev pub invariant-lines : goal.invariant-lines
invariant-lines g l = map (λ key. key.0.now) l.keys.items ++ lines_of l.left ≡ lines_of l.bytes

abbrev pub decreases-lines : goal.decreases-lines
decreases-lines g l = length l.left
