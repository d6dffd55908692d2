-- How many misses there are at least and at most, and how those by size stand between those by number. Public clauses cite them.
use Rattle.std.specs.Prelude.{ℕ, ◌+◌, ◌*◌, ◌≤◌, Bool, List, length, reverse}
use Rattle.std.specs.List.{All, sum_by}
use Rattle.clru_model.specs.Requests.{distinct, misses}
use Rattle.clru_model.specs.Sizes.{misses_by_size, missed_size}

module _ {K : Type 0} (eq : K → K → Bool) where
  -- at each capacity the first request of each key misses
  abbrev pub DistinctMiss : Type 0
  DistinctMiss = (k : ℕ) (requests : List K) → distinct eq (reverse requests) ≤ misses eq k requests

  -- and no more than all requests do
  abbrev pub NoMoreMiss : Type 0
  NoMoreMiss = (k : ℕ) (requests : List K) → misses eq k requests ≤ length requests

  -- by size no more than all of the size is missed
  abbrev pub NoMoreSizeMisses : Type 0
  NoMoreSizeMisses = (weight : K → ℕ) (c : ℕ) (requests : List K)
      → missed_size eq weight c requests ≤ sum_by (λ x. 1 + weight x) requests

  -- a size has at least the misses of as many keys
  abbrev pub SizesMissMore : Type 0
  SizesMissMore = (weight : K → ℕ) (c : ℕ) (requests : List K) → misses eq c requests ≤ misses_by_size eq weight c requests

  -- where no request weighs more than g, room for k of the greatest entries has at most the misses of k keys
  abbrev pub RoomForGreatestMissesLess : Type 0
  RoomForGreatestMissesLess = (weight : K → ℕ) (g k : ℕ) (requests : List K) → All (λ x. weight x ≤ g) requests
      → misses_by_size eq weight ((g + 1) * k) requests ≤ misses eq k requests
