-- Knees: the rows of the faithful table at which a fall ends. Public clauses cite them.
use Rattle.std.specs.Prelude.{ℕ, ◌-◌, ◌*◌, Bool, ◌&&◌, nat_eq, nat_le, nat_lt, List, [], ◌∷◌, ◌++◌, if◌then◌else◌}
use Rattle.std.specs.List.{list_any}
use Rattle.clru_report.specs.Faithful.{point_at}
use Rattle.clru_report.specs.declared.faithful.Point.{Point}

-- c, between the rows a and b, is the foot of a fall: since a at least one fiftieth of the whole is saved, and for each unit more than
-- from there to b, by more than b / a times; so a curve that falls exactly as 1 / capacity has none
abbrev pub is_foot : ℕ → Point → Point → Point → Bool
is_foot whole a c b = nat_le whole (50 * (a.misses - c.misses))
    && nat_lt ((c.misses - b.misses) * (c.capacity - a.capacity) * b.capacity) ((a.misses - c.misses) * (b.capacity - c.capacity) * a.capacity)

module _ (misses : ℕ → ℕ) (whole : ℕ) where
  -- the feet among c and the rows behind it, where a is before c
  abbrev pub knees_from : ℕ → ℕ → List ℕ → List ℕ
  knees_from a c [] = []
  knees_from a c (b ∷ table) =
      (if is_foot whole (point_at misses a) (point_at misses c) (point_at misses b) then c ∷ [] else []) ++ knees_from c b table

  -- the knees of a table: neither its first row nor its last is one
  abbrev pub knees : List ℕ → List ℕ
  knees [] = []
  knees (a ∷ []) = []
  knees (a ∷ c ∷ table) = knees_from a c table

-- a capacity is one of these
abbrev pub is_among : List ℕ → ℕ → Bool
is_among cs c = list_any (λ y. nat_eq y c) cs
