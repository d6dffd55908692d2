-- Which capacities a table has. Public clauses cite them.
use Rattle.std.specs.Prelude.{ℕ, ◌+◌, ◌-◌, Bool, ◌||◌, ◌==◌, nat_lt, nat_le, List, [], ◌∷◌, ◌++◌, map, if◌then◌else◌}
use Rattle.std.specs.List.{filter, range_with_len}
use Rattle.std.specs.Int.NonZero.{non_zero_usize_get}
use Rattle.clru_text.specs.RoundNumbers.{round_number}
use Rattle.clru_text.specs.declared.options.Capacities.{Capacities}
use Rattle.clru_text.specs.declared.options.Capacities.TheVariants.{Usual, Each, Named, HitRatio, ByteHitRatio}
use Rattle.clru_report.specs.Ratios.{least_with}

-- the round numbers below n, and n
abbrev pub usual : ℕ → List ℕ
usual n = filter (λ c. nat_lt c n) (map round_number (range_with_len 0 60)) ++ (if n == 0 then [] else n ∷ [])

-- 1, or a capacity with fewer misses than the one before
abbrev pub is_fall : (ℕ → ℕ) → ℕ → Bool
is_fall misses c = (c == 1) || nat_lt (misses c) (misses (c - 1))

-- 1, and each such capacity up to n
abbrev pub falls : (ℕ → ℕ) → ℕ → List ℕ
falls misses n = filter (is_fall misses) (map (λ k. k + 1) (range_with_len 0 n))

-- the capacities for so many requests, of n distinct keys, with so many misses at each, where the usual ones are those of the table;
-- each key takes one place, so the bytes are the requests
abbrev pub capacities_of : {A : Type 0} → Capacities A → (ℕ → ℕ) → ℕ → ℕ → List ℕ → List ℕ
capacities_of Usual misses whole n table = table
capacities_of Each misses whole n table = falls misses n
capacities_of (Named named) misses whole n table = map non_zero_usize_get named.items
capacities_of (HitRatio r) misses whole n table = least_with r.number whole misses 1 n
capacities_of (ByteHitRatio r) misses whole n table = least_with r.number whole misses 1 n

-- the greatest size g, and each such capacity from there up to n
abbrev pub falls_from : (ℕ → ℕ) → ℕ → ℕ → List ℕ
falls_from misses g n = filter (λ c. (c == g) || nat_lt (misses c) (misses (c - 1)))
    (map (λ k. g + k) (range_with_len 0 (n + 1 - g)))

-- the round numbers below n, and n, from g on
abbrev pub usual_from : ℕ → ℕ → List ℕ
usual_from g n = filter (λ c. nat_le g c) (usual n)

-- the capacities under an age limit for n distinct keys, or for keys of the size n together: the usual ones, or those that are named
abbrev pub aged_capacities : {A : Type 0} → Capacities A → ℕ → List ℕ
aged_capacities Usual n = usual n
aged_capacities Each n = []
aged_capacities (Named named) n = map non_zero_usize_get named.items
aged_capacities (HitRatio r) n = []
aged_capacities (ByteHitRatio r) n = []

-- the capacities for so many requests of this size together, of the greatest size g, whose distinct keys have the size n together, with
-- so many misses at each, and of such a size, where the usual ones are those of the table
abbrev pub sized_capacities_of : {A : Type 0} → Capacities A → (ℕ → ℕ) → (ℕ → ℕ) → ℕ → ℕ → ℕ → ℕ → List ℕ → List ℕ
sized_capacities_of Usual misses missed requests size g n table = table
sized_capacities_of Each misses missed requests size g n table = falls_from misses g n
sized_capacities_of (Named named) misses missed requests size g n table = map non_zero_usize_get named.items
sized_capacities_of (HitRatio r) misses missed requests size g n table = least_with r.number requests misses g n
sized_capacities_of (ByteHitRatio r) misses missed requests size g n table = least_with r.number size missed g n
