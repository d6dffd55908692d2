-- A floor of what every schedule misses, also of those that let requested keys pass by: a hit takes room, at each position since the
-- latest request of its key, and there is no more than the room at each request. Public clauses cite it.
use Rattle.std.specs.Prelude.{ℕ, suc, ◌+◌, ◌-◌, ◌*◌, ◌/◌, ◌≤◌, max, Bool, if◌then◌else◌, List, [], ◌∷◌, length, reverse}
use Rattle.std.specs.List.{sum_by}
use Rattle.clru_model.specs.Bypass.{ServesOrPasses}
use Rattle.clru_model.specs.Least.{IsLeast}
use Rattle.clru_model.specs.Requests.{holds, distinct, since}
use Rattle.clru_model.specs.Schedule.{Schedules, schedule_misses}
use Rattle.clru_model.specs.SizedSchedule.{schedule_missed_size}
use Rattle.clru_model.specs.Sizes.{SameWeights, total, misses_by_size, missed_size}

-- the greatest of the number n and of what f gives at the others
abbrev pub greatest_of : (ℕ → ℕ) → ℕ → List ℕ → ℕ
greatest_of f n [] = n
greatest_of f n (m ∷ ms) = max (f m) (greatest_of f n ms)

module _ {K : Type 0} (eq : K → K → Bool) where
  -- how many positions after its latest request x is requested again
  abbrev pub gap : K → List K → ℕ
  gap x past = suc (length (since eq x past))

  -- the gap of each request whose key came before, after the requests of the past, the latest first
  abbrev pub gaps_after : List K → List K → List ℕ
  gaps_after past [] = []
  gaps_after past (x ∷ rs) = if holds eq x past then gap x past ∷ gaps_after (x ∷ past) rs else gaps_after (x ∷ past) rs

  -- the prices of the requests whose key a schedule holds before them
  abbrev pub price_of_hits : (K → ℕ) → List (List K) → List K → ℕ
  price_of_hits price [] rs = 0
  price_of_hits price (ks ∷ later) [] = 0
  price_of_hits price (ks ∷ later) (x ∷ rs) = (if holds eq x ks then price x else 0) + price_of_hits price later rs

module _ {K : Type 0} (eq : K → K → Bool) (weight : K → ℕ) where
  -- a schedule of the size h that may let requested keys pass by
  abbrev pub IsBypassScheduleBySize : ℕ → List (List K) → List K → Type 0
  IsBypassScheduleBySize h held rs = Schedules (λ ks. total eq weight ks ≤ h) (ServesOrPasses eq) held rs

  -- the room that a hit of x takes: its size, at each position since its latest request
  abbrev pub volume : K → List K → ℕ
  volume x past = gap eq x past * (1 + weight x)

  -- the volume of each request whose key came before
  abbrev pub volumes_after : List K → List K → List ℕ
  volumes_after past [] = []
  volumes_after past (x ∷ rs) = if holds eq x past then volume x past ∷ volumes_after (x ∷ past) rs else volumes_after (x ∷ past) rs

  -- by how much the prices of the requests whose key came before are above their volumes
  abbrev pub spared_after : (K → ℕ) → List K → List K → ℕ
  spared_after price past [] = 0
  spared_after price past (x ∷ rs) = (if holds eq x past then price x - volume x past else 0) + spared_after price (x ∷ past) rs

  -- where a hit of each key x has the price g * worth x: how much the hits are worth at most, at the size h
  abbrev pub most_hits : (K → ℕ) → ℕ → ℕ → List K → ℕ
  most_hits worth h g rs = (spared_after (λ x. g * worth x) [] rs + h * length rs) / g

  -- a floor of the misses at the size h: by a price that is one of the volumes, and at least each key's first request
  abbrev pub floor_misses : ℕ → List K → ℕ
  floor_misses h rs = greatest_of (λ v. length rs - most_hits (λ _. 1) h v rs) (distinct eq (reverse rs)) (volumes_after [] rs)

  -- a floor of the missed size: by a price that is one of the gaps times the size
  abbrev pub floor_missed_size : ℕ → List K → ℕ
  floor_missed_size h rs = greatest_of (λ g. sum_by (λ x. 1 + weight x) rs - most_hits (λ x. 1 + weight x) h g rs)
      (total eq weight (reverse rs)) (gaps_after eq [] rs)

module _ {K : Type 0} (eq : K → K → Bool) where
  -- whatever the price of each key: the hits of a schedule that starts empty are paid for by what the prices are above the volumes, and
  -- by the size h at each request
  abbrev pub HitsArePaid : Type 0
  HitsArePaid = (weight price : K → ℕ) (h : ℕ) (schedule : List (List K)) (requests : List K)
      → SameWeights eq weight → IsBypassScheduleBySize eq weight h ([] ∷ schedule) requests
      → price_of_hits eq price ([] ∷ schedule) requests ≤ spared_after eq weight price [] requests + h * length requests

  -- no schedule that starts empty has fewer misses than the floor
  abbrev pub FloorIsBelow : Type 0
  FloorIsBelow = (weight : K → ℕ) (h : ℕ) (schedule : List (List K)) (requests : List K)
      → SameWeights eq weight → IsBypassScheduleBySize eq weight h ([] ∷ schedule) requests
      → floor_misses eq weight h requests ≤ schedule_misses eq ([] ∷ schedule) requests

  -- nor misses less of the size
  abbrev pub SizeFloorIsBelow : Type 0
  SizeFloorIsBelow = (weight : K → ℕ) (h : ℕ) (schedule : List (List K)) (requests : List K)
      → SameWeights eq weight → IsBypassScheduleBySize eq weight h ([] ∷ schedule) requests
      → floor_missed_size eq weight h requests ≤ schedule_missed_size eq weight ([] ∷ schedule) requests

  -- where keys weigh nothing it is no more than the least possible misses
  abbrev pub FloorIsBelowLeast : Type 0
  FloorIsBelowLeast = (h n : ℕ) (requests : List K) → IsLeast eq h requests n → floor_misses eq (λ _. 0) h requests ≤ n

  -- nor than what a replay at the same size misses
  abbrev pub FloorIsBelowReplay : Type 0
  FloorIsBelowReplay = (weight : K → ℕ) (c : ℕ) (requests : List K) → SameWeights eq weight
      → floor_misses eq weight c requests ≤ misses_by_size eq weight c requests

  -- nor is the floor of the missed size above the size that it misses
  abbrev pub SizeFloorIsBelowReplay : Type 0
  SizeFloorIsBelowReplay = (weight : K → ℕ) (c : ℕ) (requests : List K) → SameWeights eq weight
      → floor_missed_size eq weight c requests ≤ missed_size eq weight c requests
