use Rattle.std.proofs.Common.{◌≡◌, ◌+◌, ◌-◌, ◌≤◌, map}
use Rattle.clru_curve.specs.LatestSizes.{sizes_from}
use Rattle.clru_curve.proofs.sized.size_list.sum_between.Given as goal

abbrev pub invariant-loop-at : goal.invariant-loop-at
invariant-loop-at g l = let ss = map g.T.NumberedValue.seen l.sizes in record { within : l.at ≤ l.end; sum : l.sum + sizes_from ss l.at ≡ sizes_from ss l.first }

abbrev pub decreases-loop-at : goal.decreases-loop-at
decreases-loop-at g l = l.end - l.at
