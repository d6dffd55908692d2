use Rattle.std.proofs.Common.{◌≡◌, ◌+◌, ◌≤◌, map}
use Rattle.clru_curve.specs.LatestSizes.{sizes_from}
use Rattle.clru_curve.proofs.sized.size_list.sum_of_rest.Given as goal

abbrev pub invariant-loop-place : goal.invariant-loop-place
invariant-loop-place g l = let ss = map g.T.NumberedValue.seen l.sizes in record {
  before : l.place ≤ l.at → l.sum ≡ 0;
  behind : l.at ≤ l.place → l.sum + sizes_from ss l.place ≡ sizes_from ss l.at;
}
