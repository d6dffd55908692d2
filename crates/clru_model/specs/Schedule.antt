-- Schedules: the keys that some policy, which may know all requests beforehand, holds before each request and at the end.
-- And the competitive bound: the misses of a replay beside those of every schedule. Public clauses cite them.
use Rattle.std.specs.Prelude.{◌≡◌, ℕ, ◌+◌, ◌-◌, ◌*◌, ◌≤◌, Bool, true, not, List, [], ◌∷◌, length}
use Rattle.std.specs.List.{list_all, count_by}
use Rattle.clru_model.specs.Requests.{holds}

module _ {K : Type 0} (fits : List K → Type 0) (serves : List K → K → List (List K) → Type 0) where
  -- the keys held before each request and at the end: those held each time fit, and each request is served
  abbrev pub Schedules : List (List K) → List K → Type 0
  Schedules [] rs = ⊥
  Schedules (ks ∷ later) [] = fits ks × (later ≡ [])
  Schedules (ks ∷ later) (x ∷ rs) = fits ks × serves ks x later × Schedules later rs

module _ {K : Type 0} (eq : K → K → Bool) where
  -- after the request of x at the keys ks, x is held, and no other key came in: no key passes by, and none comes unasked
  abbrev pub Serves : List K → K → List (List K) → Type 0
  Serves ks x [] = ⊥
  Serves ks x (next ∷ later) = (list_all (λ q. holds eq q (x ∷ ks)) next ≡ true) × (holds eq x next ≡ true)

  -- a schedule of h keys for the requests; one that starts empty is `[] ∷ schedule`
  abbrev pub IsSchedule : ℕ → List (List K) → List K → Type 0
  IsSchedule h held rs = Schedules (λ ks. length ks ≤ h) Serves held rs

  -- for each request in order whether its key is held before it
  abbrev pub schedule_marks : List (List K) → List K → List Bool
  schedule_marks [] rs = []
  schedule_marks (ks ∷ later) [] = []
  schedule_marks (ks ∷ later) (x ∷ rs) = holds eq x ks ∷ schedule_marks later rs

  -- how many requests find their key not held
  abbrev pub schedule_misses : List (List K) → List K → ℕ
  schedule_misses held rs = count_by not (schedule_marks held rs)

  -- n misses at capacity k: each schedule of h ≤ k keys that starts empty has at least (k - h + 1) / k times as many
  abbrev pub IsCompetitive : ℕ → List K → ℕ → Type 0
  IsCompetitive k requests n = (h : ℕ) (schedule : List (List K))
      → 1 ≤ h → h ≤ k → IsSchedule h ([] ∷ schedule) requests
      → (k - h + 1) * n ≤ k * schedule_misses ([] ∷ schedule) requests

  -- the same beside schedules that start with any keys, for up to h more misses
  abbrev pub IsCompetitiveFromAnyStart : ℕ → List K → ℕ → Type 0
  IsCompetitiveFromAnyStart k requests n = (h : ℕ) (schedule : List (List K))
      → 1 ≤ h → h ≤ k → IsSchedule h schedule requests
      → (k - h + 1) * n ≤ k * schedule_misses schedule requests + h * (k - h + 1)
