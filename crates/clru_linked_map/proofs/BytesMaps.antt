-- What a look-up in a map of strings finds after an insertion. Callers' proofs cite it.
use Rattle.std.proofs.Common.{◌≡◌, ℕ, Some, List}
use Rattle.std.specs.Cmp.Lexicographic.{nat_list_eq_equiv}
use Rattle.std.specs.Map.{lookup}
use Rattle.std.specs.Prelude.{bytes_eq, if◌then◌else◌}
use Rattle.clru_linked_map.specs.BytesMaps.{with_bytes}
use Rattle.clru_linked_map.proofs.KeyTables.{lookup-with_key}

-- the value that was inserted, at its string, and what was found before elsewhere
pub lookup-with_bytes : {V : Type 0} (x bytes : List ℕ) (v : V) (es : List (List ℕ × V))
    → lookup (bytes_eq x) (with_bytes bytes v es) ≡ (if bytes_eq x bytes then Some v else lookup (bytes_eq x) es)
lookup-with_bytes x bytes v es = lookup-with_key bytes_eq nat_list_eq_equiv x bytes v es
