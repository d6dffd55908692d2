-- The line that a key is. Public clauses cite it.
use Rattle.std.specs.Prelude.{ℕ, Bool, List, bytes_eq}
use Rattle.clru_text.specs.declared.lines.OwnedKey.{OwnedKey}

-- the bytes of the line that a key is
abbrev pub line_of : {A : Type 0} → OwnedKey A → List ℕ
line_of key = key.0.items

-- keys are compared by their lines, and weigh what these do
abbrev pub same_line : {A : Type 0} → OwnedKey A → OwnedKey A → Bool
same_line x y = bytes_eq (line_of x) (line_of y)
