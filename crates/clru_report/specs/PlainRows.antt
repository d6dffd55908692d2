-- Rows of a table that show misses alone. Public clauses cite them.
use Rattle.std.specs.Prelude.{◌≡◌, ℕ, ◌<◌, List, length, map, None, slice_index_or}
use Rattle.std.specs.List.{All}
use Rattle.clru_report.specs.Tables.{capacity_of_row}
use Rattle.clru_report.specs.declared.rows.Row.{Row}

-- a row of which no more is known than how many miss at its capacity
abbrev pub IsPlainRow : (ℕ → ℕ) → Row → Type 0
IsPlainRow m row = (row.misses ≡ m (capacity_of_row row)) × (row.least ≡ None) × (row.floor ≡ None)

-- one such row for each capacity, in order
abbrev pub ArePlainRows : (ℕ → ℕ) → List ℕ → List Row → Type 0
ArePlainRows m capacities rows = (map capacity_of_row rows ≡ capacities) × All (IsPlainRow m) rows

-- at each index the number is that of the capacity there; more may follow
abbrev pub AreNumbersAt : (ℕ → ℕ) → (capacities numbers : List ℕ) → Type 0
AreNumbersAt m capacities numbers = (i : ℕ) → i < length capacities → slice_index_or numbers i 0 ≡ m (slice_index_or capacities i 0)
