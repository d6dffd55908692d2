use Rattle.std.proofs.Common.{◌≡◌, take}
use Rattle.clru_list.proofs.packed.widened.Given as goal

abbrev pub invariant-loop-at : goal.invariant-loop-at
invariant-loop-at g l = l.wide.items ≡ take l.at l.words.items
