-- One size for each key, where requests are keys with sizes. Public clauses cite it.
use Rattle.std.specs.Prelude.{ℕ, ◌+◌, Bool, false, not, ◌&&◌, List, [], ◌∷◌, map, max, Option, None, Some, nat_eq, if◌then◌else◌}
use Rattle.std.specs.HashMap.{HashMap, get}
use Rattle.std.specs.List.{list_any, zip}
use Rattle.std.specs.Option.{option_map_or}

-- the greatest size that a key comes with, or 0 where it does not come
abbrev pub greatest_of_key : List (ℕ × ℕ) → ℕ → ℕ
greatest_of_key [] key = 0
greatest_of_key (object ∷ objects) key =
    if nat_eq object.0 key then max object.1 (greatest_of_key objects key) else greatest_of_key objects key

-- the greatest size of each key
abbrev pub greatest_of_each : List ℕ → List ℕ → List ℕ
greatest_of_each keys sizes = map (greatest_of_key (zip keys sizes)) keys

-- the key came before with another size
abbrev pub came_otherwise : List (ℕ × ℕ) → ℕ × ℕ → Bool
came_otherwise past object = list_any (λ held. nat_eq held.0 object.0 && not (nat_eq held.1 object.1)) past

-- how many requests stand before the first whose key came before it with another size
abbrev pub first_other : List (ℕ × ℕ) → List (ℕ × ℕ) → ℕ
first_other past [] = 0
first_other past (object ∷ objects) =
    if came_otherwise past object then 0 else (1 + first_other (object ∷ past) objects)

-- the size that a table has for a key, or 0
abbrev pub size_in : {S : Type 0} → HashMap ℕ ℕ S → ℕ → ℕ
size_in table key = option_map_or (λ size. size) (get nat_eq table key) 0

-- a key had a size before, and another one
abbrev pub is_another : Option ℕ → ℕ → Bool
is_another None size = false
is_another (Some before) size = not (nat_eq before size)
