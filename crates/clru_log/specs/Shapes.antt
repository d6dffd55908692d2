-- Shapes of texts, and the numbers in them. Public clauses cite it.
use Rattle.std.specs.Prelude.{ℕ, ◌≡◌, ◌==◌, Bool, true, false, ◌&&◌, ◌||◌, List, [], ◌∷◌, length, take, drop, replicate, if◌then◌else◌}
use Rattle.std.specs.Char.{is_ascii_digit}
use Rattle.std.specs.List.{list_all}
use Rattle.std.specs.Str.Parse.{digits_value}

-- in a shape 0 stands for any digit, ? for any byte, and another byte for itself
abbrev pub fits : ℕ → ℕ → Bool
fits mark byte = if mark == 48 then is_ascii_digit byte else (mark == 63 || byte == mark)

-- the text begins with bytes of this shape
abbrev pub has_shape : List ℕ → List ℕ → Bool
has_shape [] text = true
has_shape (mark ∷ shape) [] = false
has_shape (mark ∷ shape) (byte ∷ text) = fits mark byte && has_shape shape text

-- the text is of this shape, and ends with it
abbrev pub is_of_shape : List ℕ → List ℕ → Bool
is_of_shape shape text = length text == length shape && has_shape shape text

-- where the shape has marks of digits only, the text has digits
abbrev pub HasDigits : List ℕ → List ℕ → Type 0
HasDigits shape text = (from count : ℕ) → take count (drop from shape) ≡ replicate count 48 → list_all is_ascii_digit (take count (drop from text)) ≡ true

-- the number that so many digits from there on name
abbrev pub number_at : ℕ → ℕ → List ℕ → ℕ
number_at from count text = digits_value 10 (take count (drop from text))
