-- The sizes that lines begin with. Public clauses cite them.
use Rattle.std.specs.Prelude.{ℕ, ◌+◌, List, reverse}
use Rattle.clru_curve.specs.SizedCurves.{greatest_of, size_of_all}
use Rattle.clru_text.specs.Sizes.{weight_of_line}

-- the sizes of all lines together
abbrev pub size_of_lines : List (List ℕ) → ℕ
size_of_lines lines = size_of_all weight_of_line lines

-- the greatest size, or 1 where there is no line
abbrev pub greatest_size : List (List ℕ) → ℕ
greatest_size lines = 1 + greatest_of weight_of_line (reverse lines)
