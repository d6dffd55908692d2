use Rattle.std.proofs.Common.{ℕ, List, ◌-◌, ◌*◌, ◌<◌, ◌≤◌, ◌++◌, length, take, drop}
use Rattle.clru_curve.specs.Splits.{IsBestSplit, IsFirstBest}
use Rattle.clru_curve.specs.Rows.{AreChoices}
use Rattle.clru_curve.proofs.splits.best.follow.Given as goal

abbrev pub invariant-loop : goal.invariant-loop
invariant-loop g l = record {
  left : l.left < l.width;
  within : l.unread ≤ length l.choices;
  chosen : AreChoices g.C.Curve.all g.C.Curve.missed l.step l.width (drop l.counter l.curves) (take l.unread l.choices);
  best : (ks : List ℕ) → IsBestSplit g.C.Curve.all g.C.Curve.missed l.step (l.left * l.step) (drop l.counter l.curves) ks
      → IsBestSplit g.C.Curve.all g.C.Curve.missed l.step ((l.width - 1) * l.step) l.curves (l.capacities.items ++ ks);
  first : (ks : List ℕ) → IsBestSplit g.C.Curve.all g.C.Curve.missed l.step (l.left * l.step) (drop l.counter l.curves) ks
      → IsFirstBest g.C.Curve.all g.C.Curve.missed l.step (l.left * l.step) (drop l.counter l.curves) ks
      → IsFirstBest g.C.Curve.all g.C.Curve.missed l.step ((l.width - 1) * l.step) l.curves (l.capacities.items ++ ks);
}
