-- The report of an input: one text, or nothing where the first line is no capacity.
use Rattle.std.specs.Prelude.{ℕ, Bool, List, [], ◌∷◌, ◌++◌, Option, None, Some, flat_map, codes, decimal, bytes_eq, if◌then◌else◌}
use Rattle.std.specs.Str.Parse.{digits_value}
use Rattle.clru_model.specs.Requests.{marks, misses}
use Rattle.clru_text.specs.Lines.{is_capacity, lines_of}

-- the line of one request
abbrev pub mark_line : Bool → List ℕ
mark_line hit = if hit then codes "H\n" else codes "M\n"

-- the last line
abbrev pub misses_line : ℕ → List ℕ
misses_line n = codes "misses " ++ (decimal n ++ codes "\n")

-- the report of these marks, of which n are misses
abbrev pub text_of : List Bool → ℕ → List ℕ
text_of hits n = flat_map mark_line hits ++ misses_line n

-- the report of these requests at this capacity, where two keys are the same if their bytes are
abbrev pub report_at : ℕ → List (List ℕ) → List ℕ
report_at capacity requests = text_of (marks bytes_eq capacity requests) (misses bytes_eq capacity requests)

-- the first line is the capacity, and each further line is a request
abbrev pub report_of_lines : List (List ℕ) → Option (List ℕ)
report_of_lines [] = None
report_of_lines (first ∷ requests) =
    if is_capacity first then Some (report_at (digits_value 10 first) requests) else None

-- the report of an input
abbrev pub report : List ℕ → Option (List ℕ)
report bytes = report_of_lines (lines_of bytes)
