-- The columns of a line. Public clauses cite it.
use Rattle.std.specs.Prelude.{ℕ, zero, suc, ◌==◌, Bool, ◌||◌, nat_lt, List, [], Option, None, filter, length, slice_get, if◌then◌else◌}
use Rattle.std.specs.List.{slice_split}
use Rattle.clru_log.specs.declared.format.Columns.{Columns}
use Rattle.clru_log.specs.declared.format.Columns.TheVariants.{Blanks, Tabs}

-- a blank or a tab
abbrev pub is_blank : ℕ → Bool
is_blank b = b == 32 || b == 9

abbrev pub has_bytes : List ℕ → Bool
has_bytes text = nat_lt 0 (length text)

-- what stands between single tabs
abbrev pub parts : List ℕ → List (List ℕ)
parts line = slice_split (λ b. b == 9) line

-- what stands between runs of blanks and tabs
abbrev pub words : List ℕ → List (List ℕ)
words line = filter has_bytes (slice_split is_blank line)

-- the columns of a line; an empty line has none
abbrev pub columns_of : Columns → List ℕ → List (List ℕ)
columns_of Blanks line = words line
columns_of Tabs line = if has_bytes line then parts line else []

-- a column, counted from 1
abbrev pub column_at : List (List ℕ) → ℕ → Option (List ℕ)
column_at columns zero = None
column_at columns (suc n) = slice_get columns n
