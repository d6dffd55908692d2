-- One size for each key: the lines of a log as they count where each key has the greatest size it came with. Public clauses cite it.
use Rattle.std.specs.Prelude.{ℕ, Bool, true, false, List, ◌++◌, map, decimal, bytes_eq, if◌then◌else◌}
use Rattle.std.specs.List.{filter}
use Rattle.std.specs.Option.{is_none}
use Rattle.clru_text.specs.Sizes.{tail_of_line}
use Rattle.clru_report.specs.LineFaults.{fault_from}
use Rattle.clru_report.specs.Sizes.{greatest_size}

-- the greatest size that this key came with, or 1 where it did not come
abbrev pub greatest_of_key : List (List ℕ) → List ℕ → ℕ
greatest_of_key lines tail = greatest_size (filter (λ line. bytes_eq tail (tail_of_line line)) lines)

-- a line with the greatest size of its key in place of its own
abbrev pub with_greatest : List (List ℕ) → List ℕ → List ℕ
with_greatest lines line = decimal (greatest_of_key lines (tail_of_line line)) ++ tail_of_line line

-- each line with the greatest size of its key; lines with a fault stay as they are, and have no report
abbrev pub one_size : List (List ℕ) → List (List ℕ)
one_size lines = if is_none (fault_from 1 0 lines) then map (with_greatest lines) lines else lines

-- the lines as they count, where each key has one size or where it has not
abbrev pub counted_lines : Bool → List (List ℕ) → List (List ℕ)
counted_lines false lines = lines
counted_lines true lines = one_size lines
