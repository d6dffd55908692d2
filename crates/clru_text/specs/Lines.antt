-- The lines of an input, and the numbers in words of an argument. Public clauses cite them.
use Rattle.std.specs.Prelude.{ℕ, ◌^◌, Bool, ◌&&◌, List, [], ◌∷◌, Option, None, Some, length, ◌==◌, nat_lt, nat_le, if◌then◌else◌}
use Rattle.std.specs.List.{list_all, slice_split}
use Rattle.std.specs.Char.{is_ascii_digit}
use Rattle.std.specs.Str.Parse.{digits_value}

-- what follows the last newline is a line where it is not empty
abbrev pub unless_empty : List ℕ → List (List ℕ)
unless_empty [] = []
unless_empty (b ∷ bs) = (b ∷ bs) ∷ []

-- the lines in the parts between newlines
abbrev pub lines_of_parts : List (List ℕ) → List (List ℕ)
lines_of_parts [] = []
lines_of_parts (part ∷ []) = unless_empty part
lines_of_parts (part ∷ next ∷ more) = part ∷ lines_of_parts (next ∷ more)

-- the lines of an input, each without its newline; a carriage return is a byte like others
abbrev pub lines_of : List ℕ → List (List ℕ)
lines_of bytes = lines_of_parts (slice_split (λ b. b == 10) bytes)

-- 1 to 20 digits and nothing else
abbrev pub are_digits : List ℕ → Bool
are_digits word = nat_lt 0 (length word) && (nat_le (length word) 20 && list_all is_ascii_digit word)

-- the number that such a word names
abbrev pub digits_named : List ℕ → Option ℕ
digits_named word = if are_digits word then Some (digits_value 10 word) else None

-- such digits with a value from 1 to the greatest `usize`
abbrev pub is_capacity : List ℕ → Bool
is_capacity word = are_digits word && (nat_lt 0 (digits_value 10 word) && nat_lt (digits_value 10 word) (2 ^ 64))
