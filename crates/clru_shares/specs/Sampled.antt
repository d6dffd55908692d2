-- Which lines a sample has, if there is one, and what its numbers say of all. Public clauses cite it.
use Rattle.std.specs.Prelude.{ℕ, ◌/◌, ◌==◌, Bool, true, List, Option, None, Some, if◌then◌else◌}
use Rattle.clru_text.specs.Samples.{is_kept, times}
use Rattle.clru_text.specs.Times.{kept_requests}

-- a line is one of the sample
abbrev pub is_in : Option ℕ → List ℕ → Bool
is_in None line = true
is_in (Some n) line = is_kept n line

-- those of the sample among requests with times: all of one key in n
abbrev pub kept_in : Option ℕ → List (List ℕ × ℕ) → List (List ℕ × ℕ)
kept_in None requests = requests
kept_in (Some n) requests = kept_requests n requests

-- the part of a budget, or of a capacity, that is the sample's
abbrev pub part_in : Option ℕ → ℕ → ℕ
part_in None budget = budget
part_in (Some n) budget = budget / n

-- what a number says of all: n times as much, and at most the bound
abbrev pub told_of : Option ℕ → ℕ → ℕ → ℕ
told_of None bound number = number
told_of (Some n) bound number = times n bound number

-- what so many misses say, or what their size does: of a sample without a miss, which has no line, nothing is known
abbrev pub told_in : Option ℕ → ℕ → ℕ → Option ℕ
told_in None all missed = Some missed
told_in (Some n) all missed = if missed == 0 then None else Some (times n all missed)

abbrev pub told_missed : Option ℕ → ℕ → Option ℕ → Option ℕ
told_missed sample all None = None
told_missed sample all (Some missed) = told_in sample all missed

-- the same of misses and their size, among so many requests of this size
abbrev pub told_both : Option ℕ → ℕ → ℕ → ℕ → ℕ → Option (ℕ × ℕ)
told_both None requests size misses missed = Some (misses, missed)
told_both (Some n) requests size misses missed = if misses == 0 then None else Some (times n requests misses, times n size missed)

abbrev pub told_pair : Option ℕ → ℕ → ℕ → Option (ℕ × ℕ) → Option (ℕ × ℕ)
told_pair sample requests size None = None
told_pair sample requests size (Some m) = told_both sample requests size m.0 m.1
