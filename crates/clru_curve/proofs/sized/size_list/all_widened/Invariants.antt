use Rattle.std.proofs.Common.{◌≡◌, map, take}
use Rattle.clru_curve.specs.SizeLists.{widened}
use Rattle.clru_curve.proofs.sized.size_list.all_widened.Given as goal

abbrev pub invariant-loop-at : goal.invariant-loop-at
invariant-loop-at g l = l.wide.items ≡ map widened (take l.at l.sizes.items)
