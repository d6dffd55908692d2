-- The round numbers. Public clauses cite them.
use Rattle.std.specs.Prelude.{ℕ, ◌*◌, ◌/◌, ◌%◌, ◌^◌, ◌==◌, if◌then◌else◌}

-- 1, 2 and 5
abbrev pub first_digit : ℕ → ℕ
first_digit k = if k == 0 then 1 else (if k == 1 then 2 else 5)

-- 1, 2, 5, 10, 20, 50, 100 and so on
abbrev pub round_number : ℕ → ℕ
round_number k = first_digit (k % 3) * 10 ^ (k / 3)
