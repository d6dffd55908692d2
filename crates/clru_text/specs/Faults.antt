-- What is printed of a fault, its exit status, and where it comes from. Public clauses cite them.
use Rattle.std.specs.Prelude.{ℕ, Bool, true, false, List, ◌++◌, codes, decimal}
use Rattle.clru_text.specs.declared.fault.Fault.{Fault}
use Rattle.clru_text.specs.declared.fault.Fault.TheVariants.{BadCapacity, Memory, Reading, Writing, Closed, NoSize, TooLarge, TooSmall}

abbrev pub fault_text : Fault → List ℕ
fault_text BadCapacity = codes "the first line is no capacity"
fault_text Memory = codes "memory ran out"
fault_text Reading = codes "standard input cannot be read"
fault_text Writing = codes "standard output cannot be written"
fault_text Closed = codes "standard output was closed"
fault_text (NoSize n) = codes "line " ++ (decimal n
    ++ codes " has no size: with --sizes each begins with one and a blank, as in 512 /index.html")
fault_text TooLarge = codes "the sizes of all lines add up to more than 18446744073709551615"
fault_text (TooSmall n) = codes "--at names a capacity below the greatest size: name numbers from "
    ++ (decimal n ++ codes " on")

-- the exit status of each
abbrev pub status_of : Fault → ℕ
status_of BadCapacity = 2
status_of Memory = 3
status_of Reading = 4
status_of Writing = 5
status_of Closed = 5
status_of (NoSize n) = 6
status_of TooLarge = 6
status_of (TooSmall n) = 2

-- the fault is one of the input, or of a capacity beside it
abbrev pub is_of_input : Fault → Bool
is_of_input BadCapacity = true
is_of_input Memory = false
is_of_input Reading = false
is_of_input Writing = false
is_of_input Closed = false
is_of_input (NoSize n) = true
is_of_input TooLarge = true
is_of_input (TooSmall n) = true

-- the writer took a part of the report at most
abbrev pub is_of_writing : Fault → Bool
is_of_writing BadCapacity = false
is_of_writing Memory = false
is_of_writing Reading = false
is_of_writing Writing = true
is_of_writing Closed = true
is_of_writing (NoSize n) = false
is_of_writing TooLarge = false
is_of_writing (TooSmall n) = false
