use Rattle.std.proofs.Common.{length}
use Rattle.clru.specs.Walks.{cursor_rest}
use Rattle.clru_uses.proofs.pages.halve.Given as goal

abbrev pub decreases-loop-size : goal.decreases-loop-size
decreases-loop-size l = length (cursor_rest l.cursor)
