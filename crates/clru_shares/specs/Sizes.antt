-- The sizes of lines that begin with a class: each stands behind the class. Public clauses cite them.
use Rattle.std.specs.Prelude.{ℕ, ◌+◌, Bool, true, false, List, is_some}
use Rattle.clru_curve.specs.SizedCurves.{size_of_all}
use Rattle.clru_text.specs.Sizes.{size_of_line, weight_of_line}
use Rattle.clru_shares.specs.Classes.{rest_in}

-- by size a line is to have one: what follows its class begins with it
abbrev pub is_sized : Bool → List ℕ → Bool
is_sized false line = true
is_sized true line = is_some (size_of_line (rest_in line))

-- what a line weighs: an entry takes 1 and its weight of a capacity, so the size less 1
abbrev pub weight_behind : List ℕ → ℕ
weight_behind line = weight_of_line (rest_in line)

-- the size of a line, which by keys is not counted
abbrev pub own_size : Bool → List ℕ → ℕ
own_size false line = 0
own_size true line = 1 + weight_behind line

-- those of all lines together
abbrev pub size_in : Bool → List (List ℕ) → ℕ
size_in false lines = 0
size_in true lines = size_of_all weight_behind lines
