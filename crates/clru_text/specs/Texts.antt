-- The bytes of lines. Public clauses cite it.
use Rattle.std.specs.Prelude.{ℕ, List, [], ◌∷◌, ◌++◌}

-- each line with its newline
abbrev pub bytes_of : List (List ℕ) → List ℕ
bytes_of [] = []
bytes_of (line ∷ lines) = line ++ 10 ∷ bytes_of lines
