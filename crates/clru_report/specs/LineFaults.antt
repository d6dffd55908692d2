-- The fault of lines that are to begin with sizes. Public clauses cite it.
use Rattle.std.specs.Prelude.{ℕ, ◌+◌, ◌^◌, nat_le, List, [], ◌∷◌, Option, None, Some, if◌then◌else◌}
use Rattle.std.specs.Option.{is_none}
use Rattle.clru_text.specs.Sizes.{size_of_line, weight_of_line}
use Rattle.clru_text.specs.declared.fault.Fault.{Fault}
use Rattle.clru_text.specs.declared.fault.Fault.TheVariants.{NoSize, TooLarge}

-- the fault of the first of these lines that has one, if any has: no size, or one that takes the sizes past the greatest number.
-- The lines are counted from the number on, and those before them have the size together
abbrev pub fault_from : ℕ → ℕ → List (List ℕ) → Option Fault
fault_from number size [] = None
fault_from number size (line ∷ lines) =
    if is_none (size_of_line line) then Some (NoSize number) else
    (if nat_le (2 ^ 64) (size + (1 + weight_of_line line)) then Some TooLarge else
    fault_from (number + 1) (size + (1 + weight_of_line line)) lines)
