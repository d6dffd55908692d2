use Rattle.std.proofs.Common.{◌≡◌, ◌++◌, length}
use Rattle.clru_uses.proofs.idioms.copy_into.Given as goal

abbrev pub invariant-loop-page : goal.invariant-loop-page
invariant-loop-page l = record {
  whole : l.walk ++ l.to.entries ≡ l.from.entries;
  capacity : l.to.capacity ≡ l.fn.to.capacity;
}

abbrev pub decreases-loop-page : goal.decreases-loop-page
decreases-loop-page l = length l.walk
