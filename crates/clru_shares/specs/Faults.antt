-- What is printed of a fault of a split, and its exit status. Public clauses cite them.
use Rattle.std.specs.Prelude.{◌≡◌, ℕ, Bool, true, false, List, ◌++◌, codes, decimal, ⊤}
use Rattle.clru_text.specs.Faults.{fault_text, is_of_input, is_of_writing, status_of}
use Rattle.clru_shares.specs.declared.fault.SplitFault.{SplitFault}
use Rattle.clru_shares.specs.declared.fault.SplitFault.TheVariants.{NoTime, NoClass, TooManyClasses, NoSize, TooLarge, NoRoom, Other}

abbrev pub split_fault_text : SplitFault → List ℕ
split_fault_text (NoTime n) = codes "line " ++ (decimal n
    ++ codes " has no time: with --split and --times each begins with one, as in 1700000000 images /logo.png")
split_fault_text (NoClass n) = codes "line " ++ (decimal n
    ++ codes " has no class: with --split each begins with one and a blank, as in images /logo.png")
split_fault_text (TooManyClasses n) = codes "line " ++ (decimal n
    ++ codes " has one class too many: with --split there are at most 256")
split_fault_text (NoSize n) = codes "line " ++ (decimal n
    ++ codes " has no size: with --split and --sizes one follows the class, as in images 512 /logo.png")
split_fault_text TooLarge = codes "the sizes of all lines add up to more than 18446744073709551615"
split_fault_text (NoRoom size) = codes "a class has an object of " ++ (decimal size ++ codes " bytes, more than the budget")
split_fault_text (Other fault) = fault_text fault

-- the exit status of each
abbrev pub split_status_of : SplitFault → ℕ
split_status_of (NoTime n) = 6
split_status_of (NoClass n) = 6
split_status_of (TooManyClasses n) = 6
split_status_of (NoSize n) = 6
split_status_of TooLarge = 6
split_status_of (NoRoom size) = 6
split_status_of (Other fault) = status_of fault

-- the writer took a part of the text at most
abbrev pub comes_of_writing : SplitFault → Bool
comes_of_writing (NoTime n) = false
comes_of_writing (NoClass n) = false
comes_of_writing (TooManyClasses n) = false
comes_of_writing (NoSize n) = false
comes_of_writing TooLarge = false
comes_of_writing (NoRoom size) = false
comes_of_writing (Other fault) = is_of_writing fault

-- the fault is one of the input, whatever the budget
abbrev pub comes_of_a_line : SplitFault → Bool
comes_of_a_line (NoTime n) = true
comes_of_a_line (NoClass n) = true
comes_of_a_line (TooManyClasses n) = true
comes_of_a_line (NoSize n) = true
comes_of_a_line TooLarge = true
comes_of_a_line (NoRoom size) = false
comes_of_a_line (Other fault) = is_of_input fault

-- the fault is none of the budget, and names the line of this number, if it names one
abbrev pub IsNumbered : ℕ → SplitFault → Type 0
IsNumbered n (NoTime m) = m ≡ n
IsNumbered n (NoClass m) = m ≡ n
IsNumbered n (TooManyClasses m) = m ≡ n
IsNumbered n (NoSize m) = m ≡ n
IsNumbered n TooLarge = ⊤
IsNumbered n (NoRoom size) = ⊥
IsNumbered n (Other fault) = ⊤
