use Rattle.std.proofs.Common.{◌≡◌, ℕ, ◌-◌, ◌*◌, ◌^◌, ◌<◌, ◌≤◌, length, get_or, drop}
use Rattle.clru_curve.specs.Rows.{IsRow, AreChoices}
use Rattle.clru_curve.proofs.splits.best.choices.Given as goal

abbrev pub invariant-loop-done : goal.invariant-loop-done
invariant-loop-done g l = record {
  numbers : length l.row.items ≡ l.width;
  row : IsRow g.C.Curve.all g.C.Curve.missed l.step (drop (length l.curves - l.done) l.curves) l.row.items;
  chosen : AreChoices g.C.Curve.all g.C.Curve.missed l.step l.width (drop (length l.curves - l.done) l.curves) l.choices.items;
  small : (j : ℕ) → j < l.width → get_or l.row.items j 0 ≤ l.done * 2 ^ 64;
}
