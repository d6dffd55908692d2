-- The part of a whole that a word names, in billionths. Public clauses cite it.
use Rattle.std.specs.Prelude.{ℕ, ◌+◌, ◌-◌, ◌*◌, ◌^◌, ◌<◌, ◌≤◌, ◌==◌, ◌&&◌, nat_le, nat_lt, List, [], length, take, drop, position, codes, bytes_eq, Option, None, Some, if◌then◌else◌}
use Rattle.std.specs.Option.{option_and_then}
use Rattle.std.specs.Str.{trim}
use Rattle.clru_text.specs.Lines.{digits_named}
use Rattle.clru_text.specs.Numbers.{unit_at}

-- more than nothing, and at most all
abbrev pub IsPart : ℕ → Type 0
IsPart r = (0 < r) × (r ≤ 10 ^ 9)

-- how many decimals may stand before a unit, if it is one: hundredths have two less
abbrev pub places_named : List ℕ → Option ℕ
places_named unit = if bytes_eq unit [] then Some 9 else (if bytes_eq unit (codes "%") then Some 7 else None)

-- a number of billionths that is a part of a whole
abbrev pub in_parts : ℕ → Option ℕ
in_parts n = if nat_lt 0 n && nat_le n (10 ^ 9) then Some n else None

-- a whole number, where so many decimals may stand
abbrev pub whole_part : ℕ → List ℕ → Option ℕ
whole_part places digits = option_and_then (λ n. in_parts (n * 10 ^ places)) (digits_named digits)

-- a number and its decimals, of which there are no more than that
abbrev pub decimal_part : ℕ → List ℕ → List ℕ → Option ℕ
decimal_part places whole decimals = option_and_then (λ n. option_and_then (λ part.
    if nat_le (length decimals) places then in_parts (n * 10 ^ places + part * 10 ^ (places - length decimals)) else None)
    (digits_named decimals)) (digits_named whole)

-- figures whose first point stands there, if they have one
abbrev pub part_in : ℕ → List ℕ → Option ℕ → Option ℕ
part_in places figures None = whole_part places figures
part_in places figures (Some at) = decimal_part places (take at figures) (drop (at + 1) figures)

-- the part of these figures, and behind them this unit
abbrev pub ratio_of : List ℕ → List ℕ → Option ℕ
ratio_of figures unit = option_and_then (λ places. part_in places figures (position (λ b. b == 46) figures)) (places_named unit)

-- the billionths that a word names, without the blanks around it
abbrev pub ratio_in : List ℕ → Option ℕ
ratio_in word = ratio_of (take (unit_at (trim word)) (trim word)) (drop (unit_at (trim word)) (trim word))
