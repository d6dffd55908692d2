-- Schedules where the size of the keys held is bounded, and the competitive bound by size. Public clauses cite them.
use Rattle.std.specs.Prelude.{◌≡◌, ℕ, ◌+◌, ◌-◌, ◌*◌, ◌≤◌, Bool, if◌then◌else◌, List, [], ◌∷◌}
use Rattle.clru_model.specs.Requests.{holds}
use Rattle.clru_model.specs.Schedule.{Schedules, Serves, IsSchedule, schedule_misses}
use Rattle.clru_model.specs.Sizes.{SameWeights, total, missed_size}

module _ {K : Type 0} (eq : K → K → Bool) (weight : K → ℕ) where
  -- a schedule of the size h for the requests: the distinct keys held are of that size at most
  abbrev pub IsScheduleBySize : ℕ → List (List K) → List K → Type 0
  IsScheduleBySize h held rs = Schedules (λ ks. total eq weight ks ≤ h) (Serves eq) held rs

  -- the size of the requests that find their key not held
  abbrev pub schedule_missed_size : List (List K) → List K → ℕ
  schedule_missed_size [] rs = 0
  schedule_missed_size (ks ∷ later) [] = 0
  schedule_missed_size (ks ∷ later) (x ∷ rs) = (if holds eq x ks then 0 else 1 + weight x) + schedule_missed_size later rs

  -- the size m missed at the size c: each schedule of a size h ≤ c that starts empty misses at least (c - h + 1) / c times as much
  abbrev pub IsCompetitiveBySize : ℕ → List K → ℕ → Type 0
  IsCompetitiveBySize c requests m = (h : ℕ) (schedule : List (List K))
      → 1 ≤ h → h ≤ c → IsScheduleBySize h ([] ∷ schedule) requests
      → (c - h + 1) * m ≤ c * schedule_missed_size ([] ∷ schedule) requests

  -- the same beside schedules that start with any keys, for up to the size h more
  abbrev pub IsCompetitiveBySizeFromAnyStart : ℕ → List K → ℕ → Type 0
  IsCompetitiveBySizeFromAnyStart c requests m = (h : ℕ) (schedule : List (List K))
      → 1 ≤ h → h ≤ c → IsScheduleBySize h schedule requests
      → (c - h + 1) * m ≤ c * schedule_missed_size schedule requests + h * (c - h + 1)

module _ {K : Type 0} (eq : K → K → Bool) where
  -- what misses at a size keeps the bound beside schedules that start empty
  abbrev pub MissedSizeCompetes : Type 0
  MissedSizeCompetes = (weight : K → ℕ) (c : ℕ) (requests : List K) → SameWeights eq weight
      → IsCompetitiveBySize eq weight c requests (missed_size eq weight c requests)

  -- and that beside schedules that start with any keys
  abbrev pub MissedSizeCompetesFromAnyStart : Type 0
  MissedSizeCompetesFromAnyStart = (weight : K → ℕ) (c : ℕ) (requests : List K) → SameWeights eq weight
      → IsCompetitiveBySizeFromAnyStart eq weight c requests (missed_size eq weight c requests)

  -- where keys weigh nothing, the size that a schedule misses is the number of its misses
  abbrev pub WeightlessScheduleMissesAreMisses : Type 0
  WeightlessScheduleMissesAreMisses = (held : List (List K)) (requests : List K)
      → schedule_missed_size eq (λ _. 0) held requests ≡ schedule_misses eq held requests

  -- and a schedule of so many keys is one of that size
  abbrev pub SchedulesAreWeightless : Type 0
  SchedulesAreWeightless = (h : ℕ) (held : List (List K)) (requests : List K) → IsSchedule eq h held requests
      → IsScheduleBySize eq (λ _. 0) h held requests
