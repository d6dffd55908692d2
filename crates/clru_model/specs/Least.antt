-- The least possible misses: those of the best schedule, which may know all requests beforehand. Public clauses cite them.
use Rattle.std.specs.Prelude.{◌≡◌, ℕ, ◌+◌, ◌-◌, ◌*◌, ◌≤◌, Bool, List, [], ◌∷◌, reverse}
use Rattle.clru_model.specs.Requests.{distinct, misses}
use Rattle.clru_model.specs.Schedule.{IsSchedule, schedule_misses}

module _ {K : Type 0} (eq : K → K → Bool) where
  -- some schedule of h keys that starts empty has n misses; it takes in each key that is asked for, and no other
  pub record IsAttained (h : ℕ) (requests : List K) (n : ℕ) : Type 0 where
    pub schedule : List (List K)
    pub serves : IsSchedule eq h ([] ∷ schedule) requests
    pub misses : schedule_misses eq ([] ∷ schedule) requests ≡ n

  -- n is the least number of misses of h keys: one schedule that starts empty has n, and none has fewer
  pub record IsLeast (h : ℕ) (requests : List K) (n : ℕ) : Type 0 where
    pub attained : IsAttained h requests n
    pub none_fewer : (schedule : List (List K)) → IsSchedule eq h ([] ∷ schedule) requests
        → n ≤ schedule_misses eq ([] ∷ schedule) requests

  -- beside schedules that start with any keys n is at most h more
  abbrev pub IsNearFromAnyStart : ℕ → List K → ℕ → Type 0
  IsNearFromAnyStart h requests n = (schedule : List (List K)) → IsSchedule eq h schedule requests
      → n ≤ schedule_misses eq schedule requests + h

  -- with room for a key or more some number is the least
  abbrev pub LeastIsThere : Type 0
  LeastIsThere = (h : ℕ) (requests : List K) → 1 ≤ h → (n : ℕ) × IsLeast h requests n

  -- at most one number is the least
  abbrev pub LeastIsOne : Type 0
  LeastIsOne = (h n m : ℕ) (requests : List K) → IsLeast h requests n → IsLeast h requests m → n ≡ m

  -- with room for more keys it is no greater
  abbrev pub LeastFalls : Type 0
  LeastFalls = (h l n m : ℕ) (requests : List K) → h ≤ l → IsLeast h requests n → IsLeast l requests m → m ≤ n

  -- with room for all keys it is their number
  abbrev pub RoomForAllHasDistinct : Type 0
  RoomForAllHasDistinct = (h : ℕ) (requests : List K) → 1 ≤ h → distinct eq (reverse requests) ≤ h
      → IsLeast h requests (distinct eq (reverse requests))

  -- beside schedules that start with any keys it is at most h more
  abbrev pub LeastIsNearFromAnyStart : Type 0
  LeastIsNearFromAnyStart = (h n : ℕ) (requests : List K) → 1 ≤ h → IsLeast h requests n → IsNearFromAnyStart h requests n

  -- the misses of a replay are those of some schedule
  abbrev pub ReplayIsSchedule : Type 0
  ReplayIsSchedule = (k : ℕ) (requests : List K) → 1 ≤ k → IsAttained k requests (misses eq k requests)

  -- so they are no fewer than the least
  abbrev pub LeastIsBelowReplay : Type 0
  LeastIsBelowReplay = (k n : ℕ) (requests : List K) → 1 ≤ k → IsLeast k requests n → n ≤ misses eq k requests

  -- and at most k / (k - h + 1) times the least of h keys, for h from 1 to k
  abbrev pub ReplayIsNearLeast : Type 0
  ReplayIsNearLeast = (h k n : ℕ) (requests : List K) → 1 ≤ h → h ≤ k → IsLeast h requests n
      → (k - h + 1) * misses eq k requests ≤ k * n
