-- Requests for keys that weigh something, where the sizes of the held keys together are bounded: which of them hit. No cache is
-- in sight here. They speak of a cache at the capacities above each weight (law_sizes). Public clauses cite them.
use Rattle.std.specs.Prelude.{◌≡◌, ℕ, ◌+◌, Bool, true, if◌then◌else◌, not, ◌&&◌, nat_le, Option, Some, None, List, [], ◌∷◌}
use Rattle.std.specs.List.{count_by}
use Rattle.clru_model.specs.Requests.{holds, since, sum_distinct}

module _ {K : Type 0} (eq : K → K → Bool) (weight : K → ℕ) where
  -- keys that are the same weigh the same
  abbrev pub SameWeights : Type 0
  SameWeights = (x y : K) → eq x y ≡ true → weight x ≡ weight y

  -- the size of all distinct keys of the requests, the latest first: 1 and the weight of each, by its first request
  abbrev pub total : List K → ℕ
  total past = sum_distinct eq (λ x. 1 + weight x) past

  -- the size of x and of the distinct keys that were requested since the latest request of x, if there was one
  abbrev pub span : K → List K → Option ℕ
  span x past = if holds eq x past then Some (1 + weight x + total (since eq x past)) else None

  -- the span of each request in order, after the requests of the past, the latest first
  abbrev pub spans_after : List K → List K → List (Option ℕ)
  spans_after past [] = []
  spans_after past (x ∷ rs) = span x past ∷ spans_after (x ∷ past) rs

  -- the span of each request in order
  abbrev pub spans : List K → List (Option ℕ)
  spans requests = spans_after [] requests

  -- x was requested before, and since then keys whose size together with its own is at most c
  abbrev pub hit_by_size : ℕ → K → List K → Bool
  hit_by_size c x past = holds eq x past && nat_le (1 + weight x + total (since eq x past)) c

  -- for each request in order whether it hits, after the requests of the past, the latest first
  abbrev pub marks_by_size_after : ℕ → List K → List K → List Bool
  marks_by_size_after c past [] = []
  marks_by_size_after c past (x ∷ rs) = hit_by_size c x past ∷ marks_by_size_after c (x ∷ past) rs

  -- for each request in order whether it hits, where the size is at most c
  abbrev pub marks_by_size : ℕ → List K → List Bool
  marks_by_size c requests = marks_by_size_after c [] requests

  -- how many requests don't hit
  abbrev pub misses_by_size : ℕ → List K → ℕ
  misses_by_size c requests = count_by not (marks_by_size c requests)

  -- the size of the requests that don't hit, after the requests of the past
  abbrev pub missed_size_after : ℕ → List K → List K → ℕ
  missed_size_after c past [] = 0
  missed_size_after c past (x ∷ rs) = (if hit_by_size c x past then 0 else 1 + weight x)
      + missed_size_after c (x ∷ past) rs

  -- the size of the requests that don't hit
  abbrev pub missed_size : ℕ → List K → ℕ
  missed_size c requests = missed_size_after c [] requests
