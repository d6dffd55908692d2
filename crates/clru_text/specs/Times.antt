-- Lines that begin with times, and how long a time is. Public clauses cite it.
use Rattle.std.specs.Prelude.{ℕ, ◌+◌, ◌-◌, ◌*◌, ◌/◌, ◌^◌, ◌==◌, nat_lt, nat_le, List, [], length, map, take, drop, position, filter, codes, bytes_eq, Option, None, Some, IsSome, unwrap_or, if◌then◌else◌}
use Rattle.std.specs.List.{All}
use Rattle.std.specs.Option.{option_and_then}
use Rattle.std.specs.Str.{trim}
use Rattle.clru_text.specs.Lines.{digits_named}
use Rattle.clru_text.specs.Numbers.{unit_at}
use Rattle.clru_text.specs.Samples.{is_kept}
use Rattle.clru_text.specs.declared.options.Times.{Times}

-- decimals of a number, of which there are so many, as millionths; what is less is cut off
abbrev pub millionths_of : ℕ → ℕ → ℕ
millionths_of part places = if nat_le places 6 then part * 10 ^ (6 - places) else part / 10 ^ (places - 6)

-- a number of millionths that is at most the greatest `usize`
abbrev pub in_time : ℕ → Option ℕ
in_time n = if nat_lt n (2 ^ 64) then Some n else None

-- a number and its decimals in millionths
abbrev pub decimal_time : List ℕ → List ℕ → Option ℕ
decimal_time whole decimals = option_and_then (λ n. option_and_then (λ part.
    in_time (n * 10 ^ 6 + millionths_of part (length decimals))) (digits_named decimals)) (digits_named whole)

-- figures whose first point stands there, if they have one
abbrev pub time_at : List ℕ → Option ℕ → Option ℕ
time_at figures None = option_and_then (λ n. in_time (n * 10 ^ 6)) (digits_named figures)
time_at figures (Some at) = decimal_time (take at figures) (drop (at + 1) figures)

-- the time that figures name, in millionths: 1 to 20 digits, and behind a point 1 to 20 more
abbrev pub time_in : List ℕ → Option ℕ
time_in figures = time_at figures (position (λ b. b == 46) figures)

-- the time that a line begins with, where its first blank stands there
abbrev pub time_before : List ℕ → Option ℕ → Option ℕ
time_before line None = None
time_before line (Some at) = time_in (take at line)

-- the time that a line begins with: what stands before its first blank
abbrev pub time_of_line : List ℕ → Option ℕ
time_of_line line = time_before line (position (λ b. b == 32) line)

-- each line begins with a time
abbrev pub HaveTimes : List (List ℕ) → Type 0
HaveTimes lines = All (λ line. IsSome (time_of_line line)) lines

-- what follows the first blank where a time stands before it; else nothing
abbrev pub rest_behind : List ℕ → Option ℕ → List ℕ
rest_behind line None = []
rest_behind line (Some time) = drop (unwrap_or (position (λ b. b == 32) line) 0 + 1) line

-- what follows the time of a line
abbrev pub rest_of_line : List ℕ → List ℕ
rest_of_line line = rest_behind line (time_of_line line)

-- what follows the times of lines
abbrev pub rests_of : List (List ℕ) → List (List ℕ)
rests_of lines = map rest_of_line lines

-- the request of a line, with its time
abbrev pub request_of : List ℕ → List ℕ × ℕ
request_of line = (rest_of_line line, unwrap_or (time_of_line line) 0)

abbrev pub requests_of : List (List ℕ) → List (List ℕ × ℕ)
requests_of lines = map request_of lines

-- the requests of the keys that a sample of one key in n keeps
abbrev pub kept_requests : ℕ → List (List ℕ × ℕ) → List (List ℕ × ℕ)
kept_requests n requests = filter (λ r. is_kept n r.0) requests

-- how many seconds a unit has, if it is one; no unit is that of the log
abbrev pub span_named : List ℕ → Option ℕ
span_named unit =
    if bytes_eq unit [] then Some 1 else
    (if bytes_eq unit (codes "s") then Some 1 else
    (if bytes_eq unit (codes "m") then Some 60 else
    (if bytes_eq unit (codes "h") then Some 3600 else
    (if bytes_eq unit (codes "d") then Some 86400 else None))))

-- so many units of that many millionths and their decimals; what is less than a millionth is cut off
abbrev pub decimal_span : ℕ → List ℕ → List ℕ → Option ℕ
decimal_span unit whole decimals = option_and_then (λ n. option_and_then (λ part.
    in_time (n * unit + part * unit / 10 ^ length decimals)) (digits_named decimals)) (digits_named whole)

-- figures whose first point stands there, if they have one
abbrev pub span_at : ℕ → List ℕ → Option ℕ → Option ℕ
span_at unit figures None = option_and_then (λ n. in_time (n * unit)) (digits_named figures)
span_at unit figures (Some at) = decimal_span unit (take at figures) (drop (at + 1) figures)

-- so many times that many seconds, in millionths
abbrev pub times_span : List ℕ → ℕ → Option ℕ
times_span figures span = span_at (span * 10 ^ 6) figures (position (λ b. b == 46) figures)

-- how long a time the word names, without the blanks around it
abbrev pub duration_in : List ℕ → Option ℕ
duration_in word = option_and_then (times_span (take (unit_at (trim word)) (trim word)))
    (span_named (drop (unit_at (trim word)) (trim word)))

-- the idle limit; without one it is the greatest time there is
abbrev pub idle_limit : Times → ℕ
idle_limit limits = unwrap_or limits.max_idle (2 ^ 64 - 1)
