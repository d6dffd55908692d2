-- Schedules that may let keys pass by: they miss each key once, and one key more of room takes all keys in.
use Rattle.std.proofs.Common.{◌≡◌, ℕ, ◌+◌, ◌≤◌, Bool, true, false}
use Rattle.std.proofs.Common.{List, [], ◌∷◌, ◌++◌, length, reverse, refl, sym, ap, ◌∙◌, arith, append-nil}
use Rattle.std.proofs.lemmas.List.{reverse-reverse}
use Rattle.std.specs.Cmp.{IsEquivalence}
use Rattle.clru_model.specs.Bypass.{ServesOrPasses, SchedulesMayPass, DistinctIsFloor, OneKeyMoreIsEnough}
use Rattle.clru_model.specs.Least.{RoomForAllHasDistinct}
use Rattle.clru_model.specs.Requests.{holds, distinct, misses}
use Rattle.clru_model.specs.Schedule.{Schedules, Serves, schedule_misses}
use Rattle.clru_model.specs.SizedSchedule.{schedule_missed_size}
use Rattle.clru_model.specs.Sizes.{SameWeights, total}
use Rattle.clru_model.proofs.Bound.{schedule_missed_weightless}
use Rattle.clru_model.proofs.Cases.{split}
use Rattle.clru_model.proofs.Distances.{misses-room}
use Rattle.clru_model.proofs.Distinct.{total_mono, holds-append}
use Rattle.clru_model.proofs.Positions.{holds-reverse}
use Rattle.clru_model.proofs.ReplaySchedules.{replay_attained}
use Rattle.clru_model.proofs.Taking.{seen_next, takes_all, takes_all_misses, with_latest}

module _ {K : Type 0} (eq : K → K → Bool) where
  pub may_pass : (fits : List K → Type 0) (held : List (List K)) (rs : List K) → Schedules fits (Serves eq) held rs
      → Schedules fits (ServesOrPasses eq) held rs
  may_pass fits [] rs sched = absurd sched
  may_pass fits (ks ∷ later) [] sched = sched
  may_pass fits (ks ∷ []) (x ∷ rs) sched = absurd sched.1
  may_pass fits (ks ∷ next ∷ later) (x ∷ rs) sched = (sched.0, sched.1.0, may_pass fits (next ∷ later) rs sched.2)

  pub schedules_may_pass : SchedulesMayPass eq
  schedules_may_pass h held rs sched = may_pass (λ ks. length ks ≤ h) held rs sched

module _ {K : Type 0} (eq : K → K → Bool) (laws : IsEquivalence eq) where
  module _ (weight : K → ℕ) (same : SameWeights eq weight) (fits : List K → Type 0) where
    -- the keys that were seen or are requested are those that were seen, and others that miss
    floor_after : (seen ks : List K) (later : List (List K)) (rs : List K)
        → ((z : K) → holds eq z ks ≡ true → holds eq z seen ≡ true) → Schedules fits (ServesOrPasses eq) (ks ∷ later) rs
        → total eq weight (seen ++ rs) ≤ total eq weight seen + schedule_missed_size eq weight (ks ∷ later) rs
    floor_after seen ks later [] within sched = omega (arith, ap (total eq weight) (append-nil seen))
    floor_after seen ks [] (x ∷ rs) within sched = absurd sched.1
    floor_after seen ks (next ∷ later) (x ∷ rs) within sched =
        let rest = floor_after (x ∷ seen) next later rs (seen_next eq laws x ks next seen sched.1 within) sched.2 in
        let moved = total_mono eq laws weight same (seen ++ x ∷ rs) (x ∷ (seen ++ rs)) (λ z g.
        let either = rw (holds-append eq z seen (x ∷ rs)) at g in
        rw (holds-append eq z seen rs) (split (eq z x) (λ t. rw t refl) (λ f. rw f (rw f at either)))) in
        split (holds eq x seen)
        (λ t. let kept : total eq weight (x ∷ seen) ≡ total eq weight seen = rw t refl in omega (arith, rest, moved, kept))
        (λ f. let more : total eq weight (x ∷ seen) ≡ 1 + weight x + total eq weight seen = rw f refl in
        let missed : holds eq x ks ≡ false = split (holds eq x ks) (λ t. cc (within x t)) (λ g. g) in
        rw missed (omega (arith, rest, moved, more)))

    -- each distinct key is missed once
    pub total_is_floor : (schedule : List (List K)) (rs : List K) → Schedules fits (ServesOrPasses eq) ([] ∷ schedule) rs
        → total eq weight (reverse rs) ≤ schedule_missed_size eq weight ([] ∷ schedule) rs
    total_is_floor schedule rs sched =
        let all = floor_after [] [] schedule rs (λ z h. h) sched in
        let turned = total_mono eq laws weight same (reverse rs) rs (λ z h. sym (holds-reverse eq z rs) ∙ h) in
        omega (arith, all, turned)

  -- so the number of distinct keys is a floor of the misses
  pub misses_distinct : (fits : List K → Type 0) (schedule : List (List K)) (rs : List K) → Schedules fits (ServesOrPasses eq) ([] ∷ schedule) rs
      → distinct eq (reverse rs) ≤ schedule_misses eq ([] ∷ schedule) rs
  misses_distinct fits schedule rs sched =
      rw schedule_missed_weightless at (total_is_floor (λ _. 0) (λ _ _ _. refl) fits schedule rs sched)

  pub distinct_is_floor : DistinctIsFloor eq
  distinct_is_floor h schedule rs sched = misses_distinct (λ ks. length ks ≤ h) schedule rs sched

  pub one_key_more_is_enough : OneKeyMoreIsEnough eq
  one_key_more_is_enough h n schedule rs sched least =
      let taken = takes_all eq laws (λ ks. length ks ≤ h) (λ ks. length ks ≤ h + 1) [] [] schedule rs (omega arith)
      (λ x next _ few. omega (arith, few)) (λ z g. g) sched in
      let fewer = rw (schedule_missed_weightless, schedule_missed_weightless) at (takes_all_misses eq laws (λ _. 0) (λ ks. length ks ≤ h) [] [] schedule rs (λ z g. g) sched) in
      omega (arith, least.none_fewer (with_latest eq rs schedule) taken, fewer)

  pub room_for_all_has_distinct : RoomForAllHasDistinct eq
  room_for_all_has_distinct h rs pos room =
      let all = ap (misses eq h) (sym (reverse-reverse rs)) ∙ misses-room eq laws h (reverse rs) room in
      let a = replay_attained eq laws h rs pos in
      record {
        attained = record { schedule = a.schedule; serves = a.serves; misses = a.misses ∙ all };
        none_fewer = λ schedule sched. distinct_is_floor h schedule rs (schedules_may_pass eq h ([] ∷ schedule) rs sched);
      }
