-- The hit ratio that a capacity is asked to have, in billionths of all. Public clauses cite it.
use Rattle.std.specs.Prelude.{ℕ, ◌+◌, ◌-◌, ◌*◌, ◌^◌, Bool, ◌||◌, nat_le, List, take}
use Rattle.std.specs.List.{filter, range_with_len}

-- where so many of the whole miss, at least r billionths of it hit
abbrev pub has_ratio : ℕ → ℕ → ℕ → Bool
has_ratio r whole missed = nat_le (10 ^ 9 * missed) ((10 ^ 9 - r) * whole)

-- so it is, or nowhere are fewer missed
abbrev pub is_enough : ℕ → ℕ → ℕ → ℕ → Bool
is_enough r whole fewest missed = has_ratio r whole missed || nat_le missed fewest

-- of the capacities from g up to n, at which the fewest miss, the least with that ratio, or where none has it the least with the
-- fewest misses
abbrev pub least_with : ℕ → ℕ → (ℕ → ℕ) → ℕ → ℕ → List ℕ
least_with r whole misses g n =
    take 1 (filter (λ c. is_enough r whole (misses n) (misses c)) (range_with_len g (n + 1 - g)))
