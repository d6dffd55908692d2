-- Lines that begin with times, where there is an idle limit. Public clauses cite it.
use Rattle.std.specs.Prelude.{◌^◌, ◌-◌, ℕ, List, map, Option, None, Some, unwrap_or, ⊤}
use Rattle.clru_text.specs.Times.{HaveTimes, requests_of as timed_requests, rests_of}

-- lines without their times, if they have any: each begins with a class
abbrev pub rests_in : Option ℕ → List (List ℕ) → List (List ℕ)
rests_in None lines = lines
rests_in (Some idle) lines = rests_of lines

-- the same, each with its time, which is 0 for lines without times
abbrev pub requests_in : Option ℕ → List (List ℕ) → List (List ℕ × ℕ)
requests_in None lines = map (λ line. (line, 0)) lines
requests_in (Some idle) lines = timed_requests lines

-- under a limit each line begins with a time
abbrev pub AreTimed : Option ℕ → List (List ℕ) → Type 0
AreTimed None lines = ⊤
AreTimed (Some idle) lines = HaveTimes lines

-- without a limit a pass has the greatest there is
abbrev pub limit_of : Option ℕ → ℕ
limit_of idle = unwrap_or idle (2 ^ 64 - 1)
