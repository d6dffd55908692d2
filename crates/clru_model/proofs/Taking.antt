-- A schedule that may bypass keys, with room for one request more, takes all in and misses no more.
use Rattle.std.proofs.Common.{◌≡◌, ℕ, ◌+◌, ◌≤◌, Bool, true, List, [], ◌∷◌, refl, arith}
use Rattle.std.proofs.lemmas.Bool.{or_left, or_right}
use Rattle.std.specs.Cmp.{IsEquivalence}
use Rattle.std.specs.List.{list_all}
use Rattle.clru_model.specs.Bypass.{ServesOrPasses}
use Rattle.clru_model.specs.Requests.{holds}
use Rattle.clru_model.specs.Schedule.{Schedules, Serves}
use Rattle.clru_model.specs.SizedSchedule.{schedule_missed_size}
use Rattle.clru_model.proofs.Cases.{split}
use Rattle.clru_model.proofs.Distinct.{held_of_all}
use Rattle.clru_model.proofs.Marks.{missed-le}
use Rattle.clru_model.proofs.ReplaySchedules.{all_held}

module _ {K : Type 0} (eq : K → K → Bool) where
  -- the keys that a schedule holds now fit
  may_fit : (fits : List K → Type 0) (ks : List K) (later : List (List K)) (rs : List K) → Schedules fits (ServesOrPasses eq) (ks ∷ later) rs
      → fits ks
  may_fit fits ks later [] sched = sched.0
  may_fit fits ks later (x ∷ rs) sched = sched.0

  -- what is held after each request, and the key of it
  abbrev pub with_latest : List K → List (List K) → List (List K)
  with_latest [] later = []
  with_latest (x ∷ rs) [] = []
  with_latest (x ∷ rs) (next ∷ later) = (x ∷ next) ∷ with_latest rs later

module _ {K : Type 0} (eq : K → K → Bool) (laws : IsEquivalence eq) where
  -- what is held after a request of x was seen before, or is x
  pub seen_next : (x : K) (ks next seen : List K) → list_all (λ q. holds eq q (x ∷ ks)) next ≡ true
      → ((z : K) → holds eq z ks ≡ true → holds eq z seen ≡ true) → (z : K) → holds eq z next ≡ true → holds eq z (x ∷ seen) ≡ true
  seen_next x ks next seen all within z h =
      let before = held_of_all eq laws next (x ∷ ks) all z h in
      split (eq z x) (λ t. rw t refl) (λ f. rw f (within z (rw f at before)))

  -- a schedule with room for each requested key beside what is held takes all keys in
  pub takes_all : (fits more : List K → Type 0) (ks front : List K) (later : List (List K)) (rs : List K) → more front
      → ((x : K) (next : List K) → holds eq x rs ≡ true → fits next → more (x ∷ next))
      → ((z : K) → holds eq z ks ≡ true → holds eq z front ≡ true) → Schedules fits (ServesOrPasses eq) (ks ∷ later) rs
      → Schedules more (Serves eq) (front ∷ with_latest eq rs later) rs
  takes_all fits more ks front later [] short room within sched = (short, refl)
  takes_all fits more ks front [] (x ∷ rs) short room within sched = absurd sched.1
  takes_all fits more ks front (next ∷ later) (x ∷ rs) short room within sched =
      let few = may_fit eq fits next later rs sched.2 in
      let in_front = seen_next x ks next front sched.1 within in
      let all = all_held eq (x ∷ next) (x ∷ front) (λ z g. split (eq z x) (λ t. rw t refl) (λ f. in_front z (rw f at g))) laws in (
        short,
        (all, or_left (eq x x) (holds eq x next) (laws.refl x)),
        takes_all fits more next (x ∷ next) later rs (room x next (or_left (eq x x) (holds eq x rs) (laws.refl x)) few)
            (λ y ks h. room y ks (or_right (eq y x) (holds eq y rs) h)) (λ z g. or_right (eq z x) (holds eq z next) g) sched.2,
      )

  -- and misses no more
  pub takes_all_misses : (weight : K → ℕ) (fits : List K → Type 0) (ks front : List K) (later : List (List K)) (rs : List K)
      → ((z : K) → holds eq z ks ≡ true → holds eq z front ≡ true) → Schedules fits (ServesOrPasses eq) (ks ∷ later) rs
      → schedule_missed_size eq weight (front ∷ with_latest eq rs later) rs ≤ schedule_missed_size eq weight (ks ∷ later) rs
  takes_all_misses weight fits ks front later [] within sched = omega arith
  takes_all_misses weight fits ks front [] (x ∷ rs) within sched = absurd sched.1
  takes_all_misses weight fits ks front (next ∷ later) (x ∷ rs) within sched =
      let rest = takes_all_misses weight fits next (x ∷ next) later rs (λ z g. or_right (eq z x) (holds eq z next) g) sched.2 in
      split (holds eq x ks)
      (λ t. rw (t, within x t) (omega (arith, rest)))
      (λ f. rw f (omega (arith, rest, missed-le (holds eq x front) (1 + weight x))))
