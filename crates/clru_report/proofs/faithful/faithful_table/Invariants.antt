use Rattle.std.proofs.Common.{◌++◌, List, ℕ, drop, map}
use Rattle.std.specs.Int.NonZero.{non_zero_usize_get}
use Rattle.clru_report.specs.Faithful.{AreAdded, AreWithAdded}
use Rattle.clru_report.proofs.faithful.faithful_table.Given as goal

-- the rows so far, and whatever comes behind them
abbrev pub invariant-loop-capacity : goal.invariant-loop-capacity
invariant-loop-capacity g l =
    (cs : List ℕ) → AreAdded (g.C.Curve.misses l.curve) l.whole l.before (map non_zero_usize_get (drop l.capacity-index l.rest)) cs
    → AreWithAdded (g.C.Curve.misses l.curve) l.whole (map non_zero_usize_get l.capacities) (map non_zero_usize_get l.table.items ++ cs)
