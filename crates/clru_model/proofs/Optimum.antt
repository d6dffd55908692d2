-- A method that drops what is wanted latest has the least misses.
use Rattle.std.proofs.Common.{◌≡◌, ℕ, suc, ◌+◌, ◌≤◌, Bool, true, false, cond}
use Rattle.std.proofs.Common.{List, [], ◌∷◌, length, take, refl, ap, ◌∙◌, arith, inl, inr}
use Rattle.std.proofs.lemmas.Bool.{and_parts}
use Rattle.std.specs.Cmp.{IsEquivalence}
use Rattle.std.specs.List.{list_all}
use Rattle.clru_model.specs.Least.{IsLeast, IsNearFromAnyStart}
use Rattle.clru_model.specs.Requests.{holds}
use Rattle.clru_model.specs.Schedule.{IsSchedule, schedule_marks, schedule_misses}
use Rattle.clru_model.proofs.Bound.{schedule_fits}
use Rattle.clru_model.proofs.Distinct.{held_of_all, distinct-le-length}
use Rattle.clru_model.proofs.Distinct.{distinct_mono}
use Rattle.clru_model.proofs.Marks.{count_by-not-cons}
use Rattle.clru_model.proofs.Wanted.{asked, wanted, wanted_beside, LosesLatest, wanted-cons, wanted_held, beside_mono, beside_few, beside_many, holds-asked}

module _ {K : Type 0} (eq : K → K → Bool) where
  -- So far a method with the keys ms had m misses and a schedule with the keys ks had s. The method is behind by no more than it holds of what is
  -- wanted, however far one looks ahead.
  abbrev pub IsAhead : (m s : ℕ) (ms ks rs : List K) → Type 0
  IsAhead m s ms ks rs = (d : ℕ) → m + wanted eq d ks rs ≤ s + wanted eq d ms rs

  -- with the keys ms at the start, n is the least number of misses for the requests to come
  pub record IsBest (h : ℕ) (ms rs : List K) (n : ℕ) : Type 0 where
    pub later : List (List K)
    pub serves : IsSchedule eq h (ms ∷ later) rs
    pub misses : schedule_misses eq (ms ∷ later) rs ≡ n
    pub none_fewer : (m s : ℕ) (ks : List K) (others : List (List K)) → IsAhead m s ms ks rs → IsSchedule eq h (ks ∷ others) rs
        → m + n ≤ s + schedule_misses eq (ks ∷ others) rs

  -- without requests
  pub IsBest_none : (h : ℕ) (ms : List K) → length ms ≤ h → IsBest h ms [] 0
  IsBest_none h ms short =
      record { later = []; serves = (short, refl); misses = refl; none_fewer = λ m s ks others ahead sched. ahead 0 }

-- one step of the claim, where all that is wanted stays: a and b say whether method and schedule hit, t whether the key is wanted again
ahead_keeps : (m s wa wb wa' wb' t : ℕ) (a b : Bool) → m + (cond b 1 0 + wb) ≤ s + (cond a 1 0 + wa) → wb' ≤ wb → wa ≤ wa'
    → (m + cond a 0 1) + (t + wb') ≤ (s + cond b 0 1) + (t + wa')
ahead_keeps m s wa wb wa' wb' t true true h p q = omega arith
ahead_keeps m s wa wb wa' wb' t true false h p q = omega arith
ahead_keeps m s wa wb wa' wb' t false true h p q = omega arith
ahead_keeps m s wa wb wa' wb' t false false h p q = omega arith

module _ {K : Type 0} (eq : K → K → Bool) (laws : IsEquivalence eq) where
  -- what the schedule holds beside x of what is wanted, it held before the request of x
  schedule_beside : (x : K) (d : ℕ) (ks next rs : List K) → list_all (λ q. holds eq q (x ∷ ks)) next ≡ true
      → wanted_beside eq x d next rs ≤ wanted_beside eq x d ks rs
  schedule_beside x d ks next rs all = beside_mono eq laws x d next ks rs (λ z apart want held.
      let back : eq z x ≡ false = laws.symm z x ∙ apart in
      rw back at (held_of_all eq laws next (x ∷ ks) all z held))

  -- the claim after a request of x
  IsAhead_next : (h m s : ℕ) (x : K) (ms next ks other rs : List K) → IsAhead eq m s ms ks (x ∷ rs)
      → holds eq x next ≡ true → LosesLatest eq h ms x rs next
      → list_all (λ q. holds eq q (x ∷ ks)) other ≡ true → holds eq x other ≡ true → length other ≤ h
      → IsAhead eq (m + cond (holds eq x ms) 0 1) (s + cond (holds eq x ks) 0 1) next other rs
  IsAhead_next h m s x ms next ks other rs ahead served latest all held short d =
      let t : ℕ = cond (holds eq x (take d rs)) 1 0 in
      let a = holds eq x ms in
      let b = holds eq x ks in
      rw (wanted_held eq laws x d next rs served, wanted_held eq laws x d other rs held) (elim (latest d) [
        | inl stays ↦
            let now = rw (wanted-cons eq laws x d ms rs, wanted-cons eq laws x d ks rs) at (ahead (suc d)) in
            let kept = beside_mono eq laws x d ms next rs (λ z apart want here. stays z here want) in
            ahead_keeps m s (wanted_beside eq x d ms rs) (wanted_beside eq x d ks rs) (wanted_beside eq x d next rs)
            (wanted_beside eq x d other rs) t a b now (schedule_beside x d ks other rs all) kept
        | inr full ↦
            let now = rw (wanted-cons eq laws x 0 ms rs, wanted-cons eq laws x 0 ks rs) at (ahead 1) in
            let many = beside_many eq laws x d next rs served full.1 in
            let few = beside_few eq laws x d other rs held in
            let w : ℕ = wanted_beside eq x d other rs in
            ahead_keeps m s w w (wanted_beside eq x d next rs) w t a b (omega (arith, now)) (omega arith) (omega (arith, few, many, full.0))
      ])

  -- a step of a method that drops what is wanted latest
  pub IsBest_cons : (h n : ℕ) (x : K) (ms next rs : List K) → length ms ≤ h → list_all (λ q. holds eq q (x ∷ ms)) next ≡ true
      → holds eq x next ≡ true → LosesLatest eq h ms x rs next → IsBest eq h next rs n
      → IsBest eq h ms (x ∷ rs) (cond (holds eq x ms) 0 1 + n)
  IsBest_cons h n x ms next rs short all served latest best = record {
    later = next ∷ best.later;
    serves = (short, (all, served), best.serves);
    misses = count_by-not-cons (holds eq x ms) (schedule_marks eq (next ∷ best.later) rs)
        ∙ ap (λ (k : ℕ). cond (holds eq x ms) 0 1 + k) best.misses;
    none_fewer = fewer;
  }
    where
      fewer : (m s : ℕ) (ks : List K) (others : List (List K)) → IsAhead eq m s ms ks (x ∷ rs) → IsSchedule eq h (ks ∷ others) (x ∷ rs)
          → m + (cond (holds eq x ms) 0 1 + n) ≤ s + schedule_misses eq (ks ∷ others) (x ∷ rs)
      fewer m s ks [] ahead sched = absurd sched.1
      fewer m s ks (other ∷ others) ahead sched =
          let after = IsAhead_next h m s x ms next ks other rs ahead served latest sched.1.0 sched.1.1
          (schedule_fits eq (λ ks. length ks ≤ h) other others rs sched.2) in
          let rest = best.none_fewer (m + cond (holds eq x ms) 0 1) (s + cond (holds eq x ks) 0 1) other others after sched.2 in
          omega (arith, rest, count_by-not-cons (holds eq x ks) (schedule_marks eq (other ∷ others) rs))

  -- where no key is held no key that is held is wanted
  wanted_none : (d : ℕ) (rs : List K) → wanted eq d [] rs ≡ 0
  wanted_none d rs = omega (
    arith,
    distinct_mono eq laws (asked eq [] (take d rs)) [] (λ z h.
        (and_parts (holds eq z (take d rs)) false (rw (holds-asked eq laws z [] (take d rs)) at h)).1),
  )

  -- no more keys are wanted than are held
  wanted-le-length : (d : ℕ) (ks rs : List K) → wanted eq d ks rs ≤ length ks
  wanted-le-length d ks rs =
      let m = distinct_mono eq laws (asked eq ks (take d rs)) ks (λ z h.
      (and_parts (holds eq z (take d rs)) (holds eq z ks) (rw (holds-asked eq laws z ks (take d rs)) at h)).1) in
      omega (arith, m, distinct-le-length eq ks)

  -- with nothing held at the start it is the least number
  pub IsLeast_from_best : (h n : ℕ) (rs : List K) → IsBest eq h [] rs n → IsLeast eq h rs n
  IsLeast_from_best h n rs best = record {
    attained = record { schedule = best.later; serves = best.serves; misses = best.misses };
    none_fewer = λ schedule sched. omega (arith, best.none_fewer 0 0 [] schedule (λ d. omega arith) sched);
  }

  -- and near that of a schedule with any start
  pub IsNear_from_best : (h n : ℕ) (rs : List K) → IsBest eq h [] rs n → IsNearFromAnyStart eq h rs n
  IsNear_from_best h n rs best [] sched = absurd sched
  IsNear_from_best h n rs best (ks ∷ later) sched =
      let short = schedule_fits eq (λ ks. length ks ≤ h) ks later rs sched in
      let m = best.none_fewer 0 h ks later (λ d. omega (arith, wanted-le-length d ks rs, short)) sched in
      omega (arith, m)
