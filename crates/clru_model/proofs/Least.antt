-- The least number of misses is one number, no greater with more room, and beside it a replay's misses are bounded.
use Rattle.std.proofs.Common.{ℕ, ◌+◌, ◌-◌, ◌*◌, ◌≤◌, Bool, List, [], ◌∷◌, arith, subst}
use Rattle.std.specs.Cmp.{IsEquivalence}
use Rattle.clru_model.specs.Least.{IsLeast, LeastIsOne, LeastFalls, ReplayIsSchedule, LeastIsBelowReplay, ReplayIsNearLeast}
use Rattle.clru_model.specs.Requests.{misses}
use Rattle.clru_model.specs.Schedule.{IsSchedule}
use Rattle.clru_model.proofs.Bound.{competitive}
use Rattle.clru_model.proofs.ReplaySchedules.{replay_attained}

module _ {K : Type 0} (eq : K → K → Bool) where
  -- none has fewer than the schedule that has the least
  least-le : (h l n m : ℕ) (rs : List K) → ((held : List (List K)) → IsSchedule eq h held rs → IsSchedule eq l held rs)
      → IsLeast eq h rs n → IsLeast eq l rs m → m ≤ n
  least-le h l n m rs wider a b =
      subst (λ c. m ≤ c) a.attained.misses (b.none_fewer a.attained.schedule (wider ([] ∷ a.attained.schedule) a.attained.serves))

  -- a schedule of h keys is one of more
  IsSchedule_wider : (h l : ℕ) (held : List (List K)) (rs : List K) → h ≤ l → IsSchedule eq h held rs → IsSchedule eq l held rs
  IsSchedule_wider h l [] rs more sched = absurd sched
  IsSchedule_wider h l (ks ∷ later) [] more sched = (omega (arith, sched.0), sched.1)
  IsSchedule_wider h l (ks ∷ later) (x ∷ rs) more sched =
      (omega (arith, sched.0), sched.1, IsSchedule_wider h l later rs more sched.2)

  pub least_is_one : LeastIsOne eq
  least_is_one h n m rs a b =
      let p = least-le h h n m rs (λ held s. s) a b in
      let q = least-le h h m n rs (λ held s. s) b a in
      omega (arith, p, q)

  pub least_falls : LeastFalls eq
  least_falls h l n m rs more a b = least-le h l n m rs (λ held s. IsSchedule_wider h l held rs more s) a b

module _ {K : Type 0} (eq : K → K → Bool) (laws : IsEquivalence eq) where
  pub replay_is_schedule : ReplayIsSchedule eq
  replay_is_schedule k rs pos = replay_attained eq laws k rs pos

  pub least_below_replay : LeastIsBelowReplay eq
  least_below_replay k n rs pos least =
      let a = replay_attained eq laws k rs pos in
      subst (λ c. n ≤ c) a.misses (least.none_fewer a.schedule a.serves)

  pub replay_near_least : ReplayIsNearLeast eq
  replay_near_least h k n rs pos within least =
      let a = least.attained in
      subst (λ c. (k - h + 1) * misses eq k rs ≤ k * c) a.misses (competitive eq laws k rs h a.schedule pos within a.serves)
