-- The classes of lines. Public clauses cite them.
use Rattle.std.specs.Prelude.{◌≡◌, ℕ, ◌+◌, ◌<◌, ◌==◌, Bool, true, false, not, ◌&&◌, ◌||◌, nat_lt, List, [], length, take, drop, filter, position, Option, None, Some, bytes_eq, slice_index_or}
use Rattle.std.specs.List.{All, list_all, list_any}
use Rattle.std.specs.Cmp.Lexicographic.{slice_cmp}
use Rattle.std.specs.Ordering.{is_lt, nat_cmp}

-- a visible ASCII character but one that a table would have to escape: " & , < > \
abbrev pub is_class_byte : ℕ → Bool
is_class_byte b = nat_lt 32 b && (nat_lt b 127
    && not (b == 34 || (b == 38 || (b == 44 || (b == 60 || (b == 62 || b == 92))))))

-- 1 or more of them, and nothing else
abbrev pub is_class : List ℕ → Bool
is_class word = not (length word == 0) && list_all is_class_byte word

-- what stands before a line's first blank
abbrev pub class_at : List ℕ → Option ℕ → List ℕ
class_at line None = line
class_at line (Some at) = take at line

abbrev pub class_in : List ℕ → List ℕ
class_in line = class_at line (position (λ b. b == 32) line)

-- a blank follows, and it is a class
abbrev pub has_class_at : List ℕ → Option ℕ → Bool
has_class_at line None = false
has_class_at line (Some at) = is_class (take at line)

abbrev pub has_class : List ℕ → Bool
has_class line = has_class_at line (position (λ b. b == 32) line)

-- what follows a line's first blank: what the line would be without a class
abbrev pub rest_at : List ℕ → Option ℕ → List ℕ
rest_at line None = []
rest_at line (Some at) = drop (at + 1) line

abbrev pub rest_in : List ℕ → List ℕ
rest_in line = rest_at line (position (λ b. b == 32) line)

-- at most so many classes have parts of a budget
abbrev pub most_classes : ℕ
most_classes = 256

-- the lines of a class
abbrev pub requests_of : List ℕ → List (List ℕ) → List (List ℕ)
requests_of name lines = filter (λ line. bytes_eq name (class_in line)) lines

-- those of a class among requests with times
abbrev pub of_class : List ℕ → List (List ℕ × ℕ) → List (List ℕ × ℕ)
of_class name requests = filter (λ r. bytes_eq name (class_in r.0)) requests

-- one class comes before another in the order of bytes
abbrev pub IsBefore : List ℕ → List ℕ → Type 0
IsBefore a b = is_lt (slice_cmp nat_cmp a b) ≡ true

-- each comes before the later ones
abbrev pub AreAscending : List (List ℕ) → Type 0
AreAscending names = (i j : ℕ) → i < j → j < length names → IsBefore (slice_index_or names i []) (slice_index_or names j [])

-- the classes of the lines, in the order of bytes: each has a line, and no other has
pub record AreClasses (lines : List (List ℕ)) (names : List (List ℕ)) : Type 0 where
  pub ascending : AreAscending names
  pub requested : All (λ name. 0 < length (requests_of name lines)) names
  pub no_other : (name : List ℕ) → list_any (bytes_eq name) names ≡ false → requests_of name lines ≡ []
