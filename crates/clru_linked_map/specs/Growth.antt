-- When a map gets places for more entries, and when they are refused. Public clauses cite it.
use Rattle.std.specs.Prelude.{◌≡◌, ℕ, ◌<◌, ◌≤◌}

-- memory for one more pair is found only where that is wanted and the len pairs take each place, and within the capacity
pub record GrowsIf (wanted : Type 0) (len capacity old new : ℕ) : Type 0 where
  pub never_falls : old ≤ new
  pub unwanted : (wanted → ⊥) → new ≡ old
  pub free : len < old → new ≡ old
  pub bounded : wanted → len ≡ old → new ≤ capacity

-- memory for one more pair is refused only where that is wanted and the len pairs take each place, and the places stay
pub record IsRefused (wanted : Type 0) (len old new : ℕ) : Type 0 where
  pub asked : wanted
  pub taken : old ≡ len
  pub stays : new ≡ old
