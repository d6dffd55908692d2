-- What a curve of keys with sizes is seen as, and its numbers at a capacity. Public clauses cite it.
use Rattle.std.specs.Prelude.{◌≡◌, ℕ, zero, suc, ◌+◌, ◌-◌, ◌<◌, ◌≤◌, nat_le, nat_lt, Bool, if◌then◌else◌, List, [], ◌∷◌, length, reverse, take, slice_index_or, refl}
use Rattle.std.specs.Coded.{Coded, code_by, coded×, coded_list, coded_ℕ}
use Rattle.std.specs.List.{count_by, sum_by}
use Rattle.std.specs.List.Sorted.{IsPermutation, IsNonDecreasingBy}
use Rattle.clru_model.specs.Requests.{distinct}
use Rattle.clru_model.specs.Sizes.{total, misses_by_size, missed_size}
use Rattle.clru_curve.specs.declared.sized.step.Step.{Step}

abbrev pub step : ℕ → ℕ → Step
step c m = record { capacity = c; missed_size = m }

abbrev pub step_code : Coded Step
step_code = code_by (ℕ × ℕ) (coded× coded_ℕ coded_ℕ) (λ s. (s.capacity, s.missed_size)) (λ t. step t.0 t.1) (λ _. refl)

-- for each request that can hit the capacity from which on it does, with the size that misses there, the least capacity first;
-- the number of requests, their size, that of the distinct keys, and the greatest weight
pub record CurveBySize : Type 0 where
  pub steps : List Step
  pub requests : ℕ
  pub size : ℕ
  pub distinct_size : ℕ
  pub greatest_weight : ℕ

abbrev pub curve_by_size : List Step → ℕ → ℕ → ℕ → ℕ → CurveBySize
curve_by_size ss n a d g = record { steps = ss; requests = n; size = a; distinct_size = d; greatest_weight = g }

abbrev pub curve_by_size_code : Coded CurveBySize
curve_by_size_code =
    code_by (List Step × (ℕ × (ℕ × (ℕ × ℕ))))
    (coded× (coded_list step_code) (coded× coded_ℕ (coded× coded_ℕ (coded× coded_ℕ coded_ℕ))))
    (λ c. (c.steps, (c.requests, (c.size, (c.distinct_size, c.greatest_weight)))))
    (λ t. curve_by_size t.0 t.1.0 t.1.1.0 t.1.1.1.0 t.1.1.1.1) (λ _. refl)

-- the steps up to a capacity: the requests that hit there
abbrev pub hits_within : ℕ → List Step → ℕ
hits_within c steps = count_by (λ s. nat_le s.capacity c) steps

-- what misses after the first k steps
abbrev pub size_after : ℕ → List Step → ℕ → ℕ
size_after size steps zero = size
size_after size steps (suc k) = (slice_index_or steps k (step 0 0)).missed_size

-- after more steps no more is missed
abbrev pub IsFalling : ℕ → List Step → Type 0
IsFalling size steps = (i j : ℕ) → i ≤ j → j ≤ length steps → size_after size steps j ≤ size_after size steps i

-- the requests that miss at the capacity c
abbrev pub misses_within : CurveBySize → ℕ → ℕ
misses_within curve c = curve.requests - hits_within c curve.steps

-- and their size
abbrev pub missed_size_within : CurveBySize → ℕ → ℕ
missed_size_within curve c = size_after curve.size curve.steps (hits_within c curve.steps)

module _ {K : Type 0} (weight : K → ℕ) where
  -- the size of all requests together
  abbrev pub size_of_all : List K → ℕ
  size_of_all requests = sum_by (λ x. 1 + weight x) requests

  -- the greatest weight that is requested, or 0
  abbrev pub greatest_of : List K → ℕ
  greatest_of [] = 0
  greatest_of (x ∷ rs) = if nat_lt (greatest_of rs) (weight x) then weight x else greatest_of rs

-- the steps of hits that are sorted: the size that each leaves, of so much in all
pub record IsMissed (size : ℕ) (hits steps : List Step) : Type 0 where
  pub same_length : length steps ≡ length hits
  pub span : (i : ℕ) → i < length hits → (slice_index_or steps i (step 0 0)).capacity ≡ (slice_index_or hits i (step 0 0)).capacity
  pub missed : (i : ℕ) → i < length hits
      → (slice_index_or steps i (step 0 0)).missed_size + sum_by (λ h. h.missed_size) (take (suc i) hits) ≡ size

-- the curve of these hits, in whatever order
pub record IsCurveOfHits (hits : List Step)
    (requests size distinct_size greatest_weight : ℕ) (curve : CurveBySize) : Type 0 where
  pub sorted : List Step
  pub permutation : IsPermutation hits sorted
  pub rising : IsNonDecreasingBy (λ h. h.capacity) sorted
  pub steps : IsMissed size sorted curve.steps
  pub requests_in_all : curve.requests ≡ requests
  pub size_in_all : curve.size ≡ size
  pub distinct_size_in_all : curve.distinct_size ≡ distinct_size
  pub greatest : curve.greatest_weight ≡ greatest_weight

-- the curve has at each capacity the misses of the requests, and their size; and a step for each request whose key came before
pub record IsSizedCurveOf {K : Type 0} (eq : K → K → Bool) (weight : K → ℕ)
    (requests : List K) (curve : CurveBySize) : Type 0 where
  pub misses : (c : ℕ) → misses_within curve c ≡ misses_by_size eq weight c requests
  pub missed_size : (c : ℕ) → missed_size_within curve c ≡ missed_size eq weight c requests
  pub again : length curve.steps + distinct eq (reverse requests) ≡ length requests
  pub requests_in_all : curve.requests ≡ length requests
  pub size : curve.size ≡ size_of_all weight requests
  pub distinct_size : curve.distinct_size ≡ total eq weight (reverse requests)
  pub greatest_weight : curve.greatest_weight ≡ greatest_of weight (reverse requests)
