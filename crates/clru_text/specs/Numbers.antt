-- The numbers that words of a command line name: digits, decimals, a unit. Public clauses cite them.
use Rattle.std.specs.Prelude.{ℕ, ◌+◌, ◌*◌, ◌/◌, ◌^◌, ◌==◌, Bool, ◌||◌, ◌&&◌, not, nat_lt, List, [], Option, None, Some, length, take, drop, position, codes, bytes_eq, if◌then◌else◌}
use Rattle.std.specs.Char.{is_ascii_digit}
use Rattle.std.specs.Option.{option_and_then, unwrap_or}
use Rattle.std.specs.Str.{trim}
use Rattle.clru_text.specs.Lines.{digits_named}

-- what a unit counts, if it is one: with an i in powers of 1,024, else of 1,000; no unit counts one
abbrev pub unit_named : List ℕ → Option ℕ
unit_named unit =
    if bytes_eq unit [] then Some 1 else
    (if bytes_eq unit (codes "K") || (bytes_eq unit (codes "k") || (bytes_eq unit (codes "KB") || bytes_eq unit (codes "kB"))) then Some (10 ^ 3) else
    (if bytes_eq unit (codes "M") || bytes_eq unit (codes "MB") then Some (10 ^ 6) else
    (if bytes_eq unit (codes "G") || bytes_eq unit (codes "GB") then Some (10 ^ 9) else
    (if bytes_eq unit (codes "T") || bytes_eq unit (codes "TB") then Some (10 ^ 12) else
    (if bytes_eq unit (codes "KiB") then Some (2 ^ 10) else
    (if bytes_eq unit (codes "MiB") then Some (2 ^ 20) else
    (if bytes_eq unit (codes "GiB") then Some (2 ^ 30) else
    (if bytes_eq unit (codes "TiB") then Some (2 ^ 40) else None))))))))

-- a number from 1 to the greatest `usize`
abbrev pub in_range : ℕ → Option ℕ
in_range n = if nat_lt 0 n && nat_lt n (2 ^ 64) then Some n else None

-- a whole number of units
abbrev pub whole_in : ℕ → List ℕ → Option ℕ
whole_in unit digits = option_and_then (λ n. in_range (n * unit)) (digits_named digits)

-- so many units and their decimals, rounded down to a whole number
abbrev pub decimals_in : ℕ → List ℕ → List ℕ → Option ℕ
decimals_in unit whole decimals = option_and_then (λ n. option_and_then (λ part.
    in_range (n * unit + part * unit / 10 ^ length decimals)) (digits_named decimals)) (digits_named whole)

-- figures whose first point stands there, if they have one; what has no unit has no decimals
abbrev pub figures_in : ℕ → List ℕ → Option ℕ → Option ℕ
figures_in unit figures None = whole_in unit figures
figures_in unit figures (Some at) = if unit == 1 then None else decimals_in unit (take at figures) (drop (at + 1) figures)

-- the number of these figures, and behind them this unit
abbrev pub number_of : List ℕ → List ℕ → Option ℕ
number_of figures unit = option_and_then (λ one. figures_in one figures (position (λ b. b == 46) figures)) (unit_named unit)

-- neither a digit nor a point
abbrev pub is_other : ℕ → Bool
is_other b = not (is_ascii_digit b) && not (b == 46)

-- where the unit begins: at the first such byte
abbrev pub unit_at : List ℕ → ℕ
unit_at word = unwrap_or (position is_other word) (length word)

-- the number that a word names, without the blanks around it
abbrev pub number_in : List ℕ → Option ℕ
number_in word = number_of (take (unit_at (trim word)) (trim word)) (drop (unit_at (trim word)) (trim word))
