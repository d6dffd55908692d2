-- What is true of one size for each key, whatever the lines are. Public clauses cite it.
use Rattle.std.specs.Prelude.{◌≡◌, ℕ, ◌+◌, ◌≤◌, List, Some}
use Rattle.std.specs.List.{Contains}
use Rattle.clru_text.specs.Sizes.{HaveSizes, size_of_line, tail_of_line, weight_of_line}
use Rattle.clru_report.specs.OneSize.{greatest_of_key, with_greatest}

-- each line has the greatest size that its key came with
abbrev pub SizesAreGreatest : Type 0
SizesAreGreatest = (lines : List (List ℕ)) (line : List ℕ) → HaveSizes lines → Contains lines line
    → size_of_line (with_greatest lines line) ≡ Some (greatest_of_key lines (tail_of_line line))

-- and the key that it had
abbrev pub KeysStay : Type 0
KeysStay = (lines : List (List ℕ)) (line : List ℕ) → HaveSizes lines → Contains lines line
    → tail_of_line (with_greatest lines line) ≡ tail_of_line line

-- no line of the key has a greater size
abbrev pub NoneIsGreater : Type 0
NoneIsGreater = (lines : List (List ℕ)) (line : List ℕ) → Contains lines line
    → 1 + weight_of_line line ≤ greatest_of_key lines (tail_of_line line)

-- and one has it
pub record IsSizeOfOne (lines : List (List ℕ)) (line : List ℕ) : Type 0 where
  pub one : List ℕ
  pub inside : Contains lines one
  pub same_key : tail_of_line one ≡ tail_of_line line
  pub size : greatest_of_key lines (tail_of_line line) ≡ 1 + weight_of_line one

abbrev pub GreatestIsOfOne : Type 0
GreatestIsOfOne = (lines : List (List ℕ)) (line : List ℕ) → Contains lines line → IsSizeOfOne lines line
