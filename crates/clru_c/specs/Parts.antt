-- Caches that share a budget, by an array of what each misses. Public clauses cite them.
use Rattle.std.specs.Prelude.{ℕ, zero, suc, ◌-◌, ◌^◌, nat_lt, List, [], ◌∷◌, take, drop, slice_index, slice_index_or, Option, Some, None, if◌then◌else◌}

-- so many rows of this width, which stand one behind the other
abbrev pub rows_of : ℕ → ℕ → List ℕ → List (List ℕ)
rows_of width zero array = []
rows_of width (suc n) array = take width array ∷ rows_of width n (drop width array)

-- what is missed without a unit
abbrev pub missed_without : List ℕ → ℕ
missed_without row = slice_index row 0

-- what is missed with some units, unless it is the greatest number, which says that there is no such cache
abbrev pub missed_with : List ℕ → ℕ → Option ℕ
missed_with row units = if nat_lt (slice_index_or row units (2 ^ 64 - 1)) (2 ^ 64 - 1)
    then Some (slice_index_or row units (2 ^ 64 - 1)) else None
