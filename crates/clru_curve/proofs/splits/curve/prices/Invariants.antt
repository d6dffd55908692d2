use Rattle.std.proofs.Common.{◌≡◌, ℕ, ◌*◌, ◌<◌, length, get_or, None}
use Rattle.clru_curve.specs.Splits.{missed_at}
use Rattle.clru_curve.proofs.splits.curve.prices.Given as goal

abbrev pub invariant-loop-units : goal.invariant-loop-units
invariant-loop-units g l = record {
  numbers : length l.prices.items ≡ l.units;
  prices : (x : ℕ) → x < l.units → get_or l.prices.items x None ≡ missed_at g.C.Curve.all g.C.Curve.missed l.curve (x * l.step);
}
