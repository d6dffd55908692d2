-- A part of a whole in millionths, and how it is printed. Public clauses cite it.
use Rattle.std.specs.Prelude.{ℕ, ◌+◌, ◌*◌, ◌/◌, ◌%◌, List, ◌++◌, codes, decimal, max}

-- n of so many in millionths, rounded, a half up; of none, as of one
abbrev pub millionths : ℕ → ℕ → ℕ
millionths n all = (2000000 * n + max 1 all) / (2 * max 1 all)

-- millionths as a decimal fraction of six digits
abbrev pub fraction_text : ℕ → List ℕ
fraction_text m = decimal (m / 1000000) ++ (codes "." ++ (decimal (m / 100000 % 10) ++ (decimal (m / 10000 % 10)
    ++ (decimal (m / 1000 % 10) ++ (decimal (m / 100 % 10) ++ (decimal (m / 10 % 10) ++ decimal (m % 10)))))))
