-- Schedules that may let a requested key pass by, beside those that take in each one. Public clauses cite them.
use Rattle.std.specs.Prelude.{◌≡◌, ℕ, ◌+◌, ◌≤◌, Bool, true, List, [], ◌∷◌, length, reverse}
use Rattle.std.specs.List.{list_all}
use Rattle.clru_model.specs.Least.{IsLeast}
use Rattle.clru_model.specs.Requests.{holds, distinct}
use Rattle.clru_model.specs.Schedule.{Schedules, IsSchedule, schedule_misses}

module _ {K : Type 0} (eq : K → K → Bool) where
  -- after the request of x at the keys ks no other key came in, and x itself came in or passed by
  abbrev pub ServesOrPasses : List K → K → List (List K) → Type 0
  ServesOrPasses ks x [] = ⊥
  ServesOrPasses ks x (next ∷ later) = list_all (λ q. holds eq q (x ∷ ks)) next ≡ true

  -- a schedule of h keys that may let requested keys pass by; one that starts empty is `[] ∷ schedule`
  abbrev pub IsBypassSchedule : ℕ → List (List K) → List K → Type 0
  IsBypassSchedule h held rs = Schedules (λ ks. length ks ≤ h) ServesOrPasses held rs

  -- a schedule that lets none pass by is one that may
  abbrev pub SchedulesMayPass : Type 0
  SchedulesMayPass = (h : ℕ) (held : List (List K)) (requests : List K)
      → IsSchedule eq h held requests → IsBypassSchedule h held requests

  -- one that starts empty misses the first request of each key
  abbrev pub DistinctIsFloor : Type 0
  DistinctIsFloor = (h : ℕ) (schedule : List (List K)) (requests : List K) → IsBypassSchedule h ([] ∷ schedule) requests
      → distinct eq (reverse requests) ≤ schedule_misses eq ([] ∷ schedule) requests

  -- and misses no fewer than the least with room for one key more
  abbrev pub OneKeyMoreIsEnough : Type 0
  OneKeyMoreIsEnough = (h n : ℕ) (schedule : List (List K)) (requests : List K)
      → IsBypassSchedule h ([] ∷ schedule) requests → IsLeast eq (h + 1) requests n
      → n ≤ schedule_misses eq ([] ∷ schedule) requests
