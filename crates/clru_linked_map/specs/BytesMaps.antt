-- What a map of strings holds after an insertion. Public clauses cite it.
use Rattle.std.specs.Prelude.{ℕ, List, bytes_eq}
use Rattle.clru_linked_map.specs.KeyTables.{with_key}

-- the entries after one is inserted: at the string that is held, or in front
abbrev pub with_bytes : {V : Type 0} → List ℕ → V → List (List ℕ × V) → List (List ℕ × V)
with_bytes = with_key bytes_eq
