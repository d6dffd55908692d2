-- Private: the strings that a caller announced to a map. No public clause cites it.
use Rattle.std.specs.Prelude.{◌≡◌, ℕ, ◌≤◌, List, length, slice_range}
use Rattle.std.specs.List.{All}
use Rattle.clru_linked_map.specs.declared.announced.Announced.{Announced}
use Rattle.clru_linked_map.specs.declared.announced.Hashed.{Hashed}

-- a string stands in the bytes, and has the hash
pub record IsHashed (hash : List ℕ → ℕ) (bytes : List ℕ) (s : Hashed) : Type 0 where
  pub order : s.start ≤ s.end
  pub within : s.end ≤ length bytes
  pub hashed : s.hash ≡ hash (slice_range bytes s.start s.end)

-- so does each of those that were announced
abbrev pub AreHashed : {A : Type 0} → (List ℕ → ℕ) → Announced A → Type 0
AreHashed hash a = All (IsHashed hash a.bytes.items) a.strings.items
