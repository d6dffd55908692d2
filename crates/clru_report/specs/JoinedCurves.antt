-- The misses of two lists of lines in a row, as they are computed. No public clause cites it.
use Rattle.std.specs.Prelude.{ℕ, ◌+◌, ◌-◌, ◌^◌, List, length, map, min}
use Rattle.std.specs.List.{range_with_len}
use Rattle.clru_curve.specs.Curves.{misses_at}

-- the sum of two numbers, or the greatest number where it does not fit
abbrev added : ℕ → ℕ → ℕ
added m n = min (m + n) (2 ^ 64 - 1)

module _ (one between two : List ℕ) where
  abbrev pub joined_at : ℕ → ℕ
  joined_at k = added (added (misses_at one k) (misses_at between k - length one)) (misses_at two k - length two)

  -- up to as many places as the curve between has
  abbrev pub joined_up_to : ℕ → List ℕ
  joined_up_to n = map (λ i. joined_at (i + 1)) (range_with_len 0 n)
