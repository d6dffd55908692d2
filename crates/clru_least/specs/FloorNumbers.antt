-- What a floor is seen as, and its number at a room. Public clauses cite it.
use Rattle.std.specs.Prelude.{◌≡◌, ℕ, zero, suc, ◌+◌, ◌-◌, ◌*◌, ◌/◌, ◌<◌, ◌≤◌, nat_le, nat_lt, Bool, if◌then◌else◌, List, length, take, All, slice_index_or, refl}
use Rattle.std.specs.Coded.{Coded, code_by, coded×, coded_list, coded_ℕ}
use Rattle.std.specs.List.{prefix_len, sum_by}
use Rattle.std.specs.List.Sorted.{IsPermutation, IsNonDecreasingBy}
use Rattle.clru_model.specs.Floor.{floor_misses, floor_missed_size}
use Rattle.clru_least.specs.declared.size_floor.FloorStep.{FloorStep}
use Rattle.clru_least.specs.declared.reuse.Reuse.{Reuse}

-- the sum of the least volume, of the two least, and so on; and the number of requests
pub record Floored : Type 0 where
  pub volumes : List ℕ
  pub requests : ℕ

abbrev pub floored : List ℕ → ℕ → Floored
floored vs n = record { volumes = vs; requests = n }

abbrev pub floored_code : Coded Floored
floored_code = code_by (List ℕ × ℕ) (coded× (coded_list coded_ℕ) coded_ℕ) (λ f. (f.volumes, f.requests)) (λ t. floored t.0 t.1) (λ _. refl)

-- the requests, but for the most hits whose volumes fit into the room at each request
abbrev pub floor_at : Floored → ℕ → ℕ
floor_at f h = f.requests - prefix_len (λ v. nat_le v (h * f.requests)) f.volumes

-- these numbers are the sums of the first of those
pub record AreSums (numbers sums : List ℕ) : Type 0 where
  pub same_length : length sums ≡ length numbers
  pub sums_up : (i : ℕ) → i < length numbers → slice_index_or sums i 0 ≡ sum_by (λ n. n) (take (suc i) numbers)

-- the floor of these volumes, in whatever order
pub record IsFloorOfVolumes (volumes : List ℕ) (requests : ℕ) (f : Floored) : Type 0 where
  pub sorted : List ℕ
  pub permutation : IsPermutation volumes sorted
  pub rising : IsNonDecreasingBy (λ v. v) sorted
  pub sums : AreSums sorted f.volumes
  pub requests_in_all : f.requests ≡ requests

abbrev pub floor_step : ℕ → ℕ → ℕ → FloorStep
floor_step g s v = record { gap = g; size = s; volume = v }

abbrev pub floor_step_code : Coded FloorStep
floor_step_code = code_by (ℕ × (ℕ × ℕ)) (coded× coded_ℕ (coded× coded_ℕ coded_ℕ)) (λ s. (s.gap, (s.size, s.volume)))
    (λ t. floor_step t.0 t.1.0 t.1.1) (λ _. refl)

-- the gap of each request whose key came before, the least first, and the sums of the sizes and of the volumes up to there; the number
-- of requests, and their size
pub record FlooredBySize : Type 0 where
  pub steps : List FloorStep
  pub requests : ℕ
  pub size : ℕ

abbrev pub floored_by_size : List FloorStep → ℕ → ℕ → FlooredBySize
floored_by_size ss n a = record { steps = ss; requests = n; size = a }

abbrev pub floored_by_size_code : Coded FlooredBySize
floored_by_size_code = code_by (List FloorStep × (ℕ × ℕ)) (coded× (coded_list floor_step_code) (coded× coded_ℕ coded_ℕ))
    (λ f. (f.steps, (f.requests, f.size))) (λ t. floored_by_size t.0 t.1.0 t.1.1) (λ _. refl)

-- the last of the first k steps
abbrev pub step_before : List FloorStep → ℕ → FloorStep
step_before steps zero = floor_step 0 0 0
step_before steps (suc k) = slice_index_or steps k (floor_step 0 0 0)

-- the part of the next hit that the rest of the room pays for
abbrev pub next_part : ℕ → List FloorStep → ℕ → ℕ
next_part paid steps k = if nat_lt k (length steps)
    then (paid - (step_before steps k).volume) / (slice_index_or steps k (floor_step 0 0 0)).gap else 0

-- the size of the first k steps, and of the part of the next that the room pays for
abbrev pub hit_size_at : ℕ → List FloorStep → ℕ → ℕ
hit_size_at paid steps k = (step_before steps k).size + next_part paid steps k

-- the size of the requests, but for the most hits whose volumes fit into the room at each request, by the least gaps
abbrev pub size_floor_at : FlooredBySize → ℕ → ℕ
size_floor_at f h = f.size - hit_size_at (h * f.requests) f.steps (prefix_len (λ s. nat_le s.volume (h * f.requests)) f.steps)

-- the step of a request whose key came before, with nothing summed up
abbrev pub own_step : Reuse → FloorStep
own_step r = floor_step r.gap r.size 0

-- the volume of such a step
abbrev pub own_volume : FloorStep → ℕ
own_volume s = s.gap * s.size

-- the sizes and the volumes of the first of those, summed up
pub record AreSteps (own steps : List FloorStep) : Type 0 where
  pub same_length : length steps ≡ length own
  pub at : (i : ℕ) → i < length own → slice_index_or steps i (floor_step 0 0 0)
      ≡ floor_step (slice_index_or own i (floor_step 0 0 0)).gap (sum_by (λ s. s.size) (take (suc i) own)) (sum_by own_volume (take (suc i) own))

-- what holds of the steps of each floor by size
pub record AreSound (steps : List FloorStep) (size : ℕ) : Type 0 where
  pub own : List FloorStep
  pub gaps : All (λ s. 1 ≤ s.gap) own
  pub summed : AreSteps own steps
  pub sizes : sum_by (λ s. s.size) own ≤ size

-- the floor of these steps, in whatever order, of so many requests and of this size in all
pub record IsFloorOfSteps (steps : List FloorStep) (requests size : ℕ) (f : FlooredBySize) : Type 0 where
  pub own : List FloorStep
  pub permutation : IsPermutation steps own
  pub rising : IsNonDecreasingBy (λ s. s.gap) own
  pub summed : AreSteps own f.steps
  pub requests_in_all : f.requests ≡ requests
  pub size_in_all : f.size ≡ size

module _ {K : Type 0} (eq : K → K → Bool) (weight : K → ℕ) where
  -- at each room it is the floor of the misses of these requests
  abbrev pub IsFloorOf : List K → Floored → Type 0
  IsFloorOf requests f = (h : ℕ) → floor_at f h ≡ floor_misses eq weight h requests

  -- at each room it is the floor of their missed size
  abbrev pub IsSizeFloorOf : List K → FlooredBySize → Type 0
  IsSizeFloorOf requests f = (h : ℕ) → size_floor_at f h ≡ floor_missed_size eq weight h requests
