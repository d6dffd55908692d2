-- The sizes that lines begin with, and what follows them. Public clauses cite them.
use Rattle.std.specs.Prelude.{ℕ, ◌-◌, Bool, ◌&&◌, List, [], length, take, drop, position, Option, None, Some, IsSome, ◌==◌, nat_lt, nat_le, if◌then◌else◌}
use Rattle.std.specs.List.{All, list_all}
use Rattle.std.specs.Option.{option_map_or}
use Rattle.std.specs.Str.Parse.{digits_value}
use Rattle.clru_text.specs.Lines.{is_capacity}

-- 1 to 20 zeros and nothing else
abbrev pub is_zero : List ℕ → Bool
is_zero word = (nat_lt 0 (length word) && nat_le (length word) 20) && list_all (λ b. b == 48) word

-- the size that a word names: 1 to 20 digits, whose value is at most the greatest `usize`; 0 counts as 1
abbrev pub size_in : List ℕ → Option ℕ
size_in word = if is_capacity word then Some (digits_value 10 word) else (if is_zero word then Some 1 else None)

-- the size that a line begins with, where its first blank stands there
abbrev pub size_before : List ℕ → Option ℕ → Option ℕ
size_before line None = None
size_before line (Some at) = size_in (take at line)

-- the size that a line begins with: what stands before its first blank
abbrev pub size_of_line : List ℕ → Option ℕ
size_of_line line = size_before line (position (λ b. b == 32) line)

-- each line begins with a size
abbrev pub HaveSizes : List (List ℕ) → Type 0
HaveSizes lines = All (λ line. IsSome (size_of_line line)) lines

-- what a line weighs as a key: an entry takes 1 and its weight of a capacity, so the size less 1
abbrev pub weight_of_line : List ℕ → ℕ
weight_of_line line = option_map_or (λ size. size - 1) (size_of_line line) 0

-- what stands in a line from its first blank on, where it has one
abbrev pub tail_from : List ℕ → Option ℕ → List ℕ
tail_from line None = []
tail_from line (Some at) = drop at line

-- the key of a line: what stands behind its size, from the blank on
abbrev pub tail_of_line : List ℕ → List ℕ
tail_of_line line = tail_from line (position (λ b. b == 32) line)
