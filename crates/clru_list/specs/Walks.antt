-- The stretch of a list that a walk has before it. Public clauses cite it.
use Rattle.std.specs.Prelude.{◌≡◌, ℕ, ◌+◌, ◌-◌, ◌<◌, ◌≤◌, List, length, take, drop, Option, slice_get}

-- so many of the elements, behind those that are done
abbrev pub stretch : {X : Type 0} → ℕ → ℕ → List X → List X
stretch done left xs = take left (drop done xs)

-- where a walk over the places stands: as long as some are left, front and back are the first and the last of them
pub record IsWindow (ps : List ℕ) (done left : ℕ) (front back : Option ℕ) : Type 0 where
  pub fits : done + left ≤ length ps
  pub first : 0 < left → front ≡ slice_get ps done
  pub last : 0 < left → back ≡ slice_get ps (done + left - 1)
