-- What a curve is seen as: the misses at the capacities 1, 2 and so on. Public clauses cite it.
use Rattle.std.specs.Prelude.{◌≡◌, ℕ, ◌-◌, ◌<◌, Bool, List, length, slice_index, slice_index_or}
use Rattle.clru_model.specs.Requests.{misses}

-- the misses at the capacity k: past the end, where there is room for all keys, those at the end. The capacity 0, which no cache
-- has, reads as the capacity 1
abbrev pub misses_at : List ℕ → ℕ → ℕ
misses_at curve k = slice_index_or curve (k - 1) (slice_index curve (length curve - 1))

module _ {K : Type 0} (eq : K → K → Bool) where
  -- at each capacity the curve has the misses of the requests
  abbrev pub HasMissesOf : List K → List ℕ → Type 0
  HasMissesOf requests curve = (k : ℕ) → 0 < k → misses_at curve k ≡ misses eq k requests
