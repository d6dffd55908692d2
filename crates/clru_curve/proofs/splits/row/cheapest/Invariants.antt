use Rattle.std.proofs.Common.{◌≡◌, ℕ, ◌+◌, ◌-◌, ◌^◌, ◌<◌, ◌≤◌, get_or, Some, None}
use Rattle.clru_curve.proofs.splits.row.cheapest.Given as goal

abbrev pub invariant-loop-taken : goal.invariant-loop-taken
invariant-loop-taken l = record {
  within : l.choice ≤ l.units;
  attained : (p : ℕ) × (get_or l.prices l.choice None ≡ Some p) × (l.least ≡ p + get_or l.before (l.units - l.choice) 0);
  least : (y p : ℕ) → y < l.taken → get_or l.prices y None ≡ Some p → l.least ≤ p + get_or l.before (l.units - y) 0;
  first : (y p : ℕ) → y < l.choice → get_or l.prices y None ≡ Some p → l.least < p + get_or l.before (l.units - y) 0;
  grows : l.least < get_or l.before l.units 0 + 2 ^ 64;
}
