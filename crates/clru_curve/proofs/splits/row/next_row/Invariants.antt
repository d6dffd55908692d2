use Rattle.std.proofs.Common.{◌≡◌, ℕ, List, ◌+◌, ◌^◌, ◌<◌, ◌++◌, length, get_or, None}
use Rattle.clru_curve.specs.Rows.{IsMinimum}
use Rattle.clru_curve.proofs.splits.row.next_row.Given as goal

abbrev pub invariant-loop-units : goal.invariant-loop-units
invariant-loop-units g l = record {
  numbers : length l.row.items ≡ l.units;
  added : (added : List ℕ) × (l.choices.items ≡ l.fn.choices.items ++ added) × (length added ≡ l.units)
      × ((j : ℕ) → j < l.units → IsMinimum (λ x. get_or l.fn.prices x None) l.fn.before j (get_or l.row.items j 0) (get_or added j 0));
  grows : (j : ℕ) → j < l.units → get_or l.row.items j 0 < get_or l.fn.before j 0 + 2 ^ 64;
}
