-- How many distinct keys lie between two requests of one key. No cache is in sight here. Public clauses cite them.
use Rattle.std.specs.Prelude.{◌≡◌, ℕ, ◌≤◌, Bool, false, if◌then◌else◌, nat_lt, Option, Some, None, List, [], ◌∷◌, map, reverse}
use Rattle.std.specs.Option.{option_map_or}
use Rattle.clru_model.specs.Requests.{holds, distinct, since, hit, marks, misses}

-- a distance is there and is less than k
abbrev pub is_below : ℕ → Option ℕ → Bool
is_below k d = option_map_or (λ n. nat_lt n k) d false

module _ {K : Type 0} (eq : K → K → Bool) where
  -- the number of distinct keys that were requested since the latest request of x, if there was one
  abbrev pub distance : K → List K → Option ℕ
  distance x past = if holds eq x past then Some (distinct eq (since eq x past)) else None

  -- the distance of each request in order, after the requests of the past, the latest first
  abbrev pub distances_after : List K → List K → List (Option ℕ)
  distances_after past [] = []
  distances_after past (x ∷ rs) = distance x past ∷ distances_after (x ∷ past) rs

  -- the distance of each request in order
  abbrev pub distances : List K → List (Option ℕ)
  distances requests = distances_after [] requests

  -- a request hits at the capacities above its distance, and at no other
  abbrev pub HitsAreBelow : Type 0
  HitsAreBelow = (k : ℕ) (x : K) (past : List K) → hit eq k x past ≡ is_below k (distance x past)

  -- and so the marks at a capacity are those of the distances
  abbrev pub MarksAreBelow : Type 0
  MarksAreBelow = (k : ℕ) (requests : List K) → marks eq k requests ≡ map (is_below k) (distances requests)

  -- at a capacity with room for all keys there are as many misses as distinct keys
  abbrev pub RoomForAllMissesFirst : Type 0
  RoomForAllMissesFirst = (k : ℕ) (requests : List K) → distinct eq (reverse requests) ≤ k
      → misses eq k requests ≡ distinct eq (reverse requests)
