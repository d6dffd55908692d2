use Rattle.std.proofs.Common.{◌≡◌, ◌++◌, drop, map}
use Rattle.std.specs.Int.NonZero.{non_zero_usize_get}
use Rattle.clru_report.specs.Knees.{knees, knees_from}
use Rattle.clru_report.proofs.knees.knees_of.Given as goal

-- the knees so far, and those that are left
abbrev pub invariant-loop-capacity : goal.invariant-loop-capacity
invariant-loop-capacity g l =
    let m = g.C.Curve.misses l.curve in
    l.found.items ++ knees_from m l.whole l.before l.here (map non_zero_usize_get (drop l.capacity-index l.rest))
    ≡ knees m l.whole (map non_zero_usize_get l.table)
