-- What the hits of any schedule take of its room.
use Rattle.std.proofs.Common.{◌≡◌, ℕ, ◌+◌, ◌-◌, ◌*◌, ◌/◌, ◌≤◌, Bool, true, not, ◌&&◌, List, [], ◌∷◌, length, refl, ap, ◌∙◌, arith, inl, inr, reverse, mul-le-mul_left}
use Rattle.std.proofs.lemmas.Bool.{and_parts, and_from, cases_lt}
use Rattle.std.specs.Cmp.{IsEquivalence}
use Rattle.std.proofs.Math.Nat.{le-div_iff_mul-le, max-le}
use Rattle.std.proofs.lemmas.List.Sums.{sum_by-cons}
use Rattle.std.specs.List.{AllByRecursion, sum_by}
use Rattle.clru_model.specs.Bypass.{ServesOrPasses}
use Rattle.clru_model.specs.Floor.{greatest_of, gap, gaps_after, price_of_hits, HitsArePaid, FloorIsBelow, SizeFloorIsBelow, FloorIsBelowLeast}
use Rattle.clru_model.specs.Floor.{IsBypassScheduleBySize, volume, volumes_after, spared_after, most_hits}
use Rattle.clru_model.specs.Schedule.{Schedules, schedule_misses}
use Rattle.clru_model.proofs.Bound.{schedule_missed_weightless, schedule_weightless}
use Rattle.clru_model.proofs.Bypass.{may_pass, total_is_floor, misses_distinct}
use Rattle.clru_model.specs.SizedSchedule.{schedule_missed_size}
use Rattle.clru_model.specs.Requests.{holds, sum_distinct, distinct, since}
use Rattle.clru_model.specs.Sizes.{SameWeights, total}
use Rattle.clru_model.proofs.Cases.{split}
use Rattle.clru_model.proofs.Distinct.{others, holds-others, since-cons, held_of_all, sum_by_key, sum_mono}

module _ {K : Type 0} (eq : K → K → Bool) (laws : IsEquivalence eq) (weight : K → ℕ) (same : SameWeights eq weight) where
  pub since_same : (x y : K) (past : List K) → eq x y ≡ true → since eq x past ≡ since eq y past
  since_same x y [] e = refl
  since_same x y (z ∷ past) e =
      rw (since-cons eq x z past, since-cons eq y z past, laws.congr x y z e) (split (eq y z)
      (λ t. rw t refl)
      (λ f. rw f (ap (λ l. z ∷ l) (since_same x y past e))))

  volume_same : (past : List K) → SameWeights eq (λ x. volume eq weight x past)
  volume_same past x y e = rw (since_same x y past e, same x y e) refl

  -- the volumes that the keys held have after the past
  abbrev waited : List K → List K → ℕ
  waited past ks = sum_distinct eq (λ x. volume eq weight x past) ks

  -- each waits one position longer, but for x, which begins anew
  waited_next : (x : K) (past ks : List K)
      → waited (x ∷ past) ks ≤ total eq weight ks + waited past (others eq x ks)
  waited_next x past [] = omega arith
  waited_next x past (y ∷ ks) =
      let rest = waited_next x past ks in
      let left : holds eq y (others eq x ks) ≡ (not (eq x y) && holds eq y ks) = holds-others eq laws y x ks in
      let turned : eq y x ≡ eq x y = laws.symm y x in
      split (holds eq y ks)
      (λ t. rw t (split (eq x y) (λ u. rw u rest) (λ n. rw n (rw (left, n, t) rest))))
      (λ f. rw (f, since-cons eq y x past, turned) (split (eq x y)
      (λ u. rw u (omega (arith, rest)))
      (λ n. rw n (rw (left, n, f) (omega (arith, rest))))))

  paid_after : (price : K → ℕ) (h : ℕ) (past ks : List K) (later : List (List K)) (rs : List K)
      → ((z : K) → holds eq z ks ≡ true → holds eq z past ≡ true) → IsBypassScheduleBySize eq weight h (ks ∷ later) rs
      → price_of_hits eq price (ks ∷ later) rs ≤ spared_after eq weight price past rs + h * length rs + waited past ks
  paid_after price h past ks later [] within sched = omega arith
  paid_after price h past ks [] (x ∷ rs) within sched = absurd sched.1
  paid_after price h past ks (next ∷ later) (x ∷ rs) within sched =
      let came : (z : K) → holds eq z next ≡ true → holds eq z (x ∷ ks) ≡ true = held_of_all eq laws next (x ∷ ks) sched.1 in
      let seen : (z : K) → holds eq z next ≡ true → holds eq z (x ∷ past) ≡ true = λ z g.
      let before = came z g in
      split (eq z x) (λ t. rw t refl) (λ f. rw f (within z (rw f at before))) in
      let rest = paid_after price h (x ∷ past) next later rs seen sched.2 in
      let longer = waited_next x past next in
      let kept = sum_mono eq laws (λ z. volume eq weight z past) (volume_same past) (others eq x next) (others eq x ks) (λ z g.
      let parts = and_parts (not (eq x z)) (holds eq z next) (rw (holds-others eq laws z x next) at g) in
      let before = came z parts.1 in
      rw (holds-others eq laws z x ks) (and_from (not (eq x z)) (holds eq z ks) parts.0
      (split (eq z x) (λ t. let turned : eq x z ≡ true = laws.symm x z ∙ t in cc (rw turned at parts.0)) (λ f. rw f at before)))) in
      let all = sum_by_key eq laws (λ z. volume eq weight z past) (volume_same past) x ks in
      let fits = bypass_fits h next later rs sched.2 in
      split (holds eq x ks)
      (λ t. let hold = rw t at all in rw (t, within x t) (omega (arith, rest, longer, kept, hold, fits)))
      (λ f. let hold = rw f at all in rw f (split (holds eq x past)
      (λ t. rw t (omega (arith, rest, longer, kept, hold, fits)))
      (λ n. rw n (omega (arith, rest, longer, kept, hold, fits)))))
    where
      bypass_fits : (h : ℕ) (ks : List K) (later : List (List K)) (rs : List K) → IsBypassScheduleBySize eq weight h (ks ∷ later) rs
          → total eq weight ks ≤ h
      bypass_fits h ks later [] sched = sched.0
      bypass_fits h ks later (x ∷ rs) sched = sched.0

  hits_paid : (price : K → ℕ) (h : ℕ) (schedule : List (List K)) (rs : List K) → IsBypassScheduleBySize eq weight h ([] ∷ schedule) rs
      → price_of_hits eq price ([] ∷ schedule) rs ≤ spared_after eq weight price [] rs + h * length rs
  hits_paid price h schedule rs sched = omega (arith, paid_after price h [] [] schedule rs (λ z g. g) sched)

  -- what hits and what is missed is all that is requested
  hits_and_missed : (other : K → ℕ) (g : ℕ) (fits : List K → Type 0) (held : List (List K)) (rs : List K)
      → Schedules fits (ServesOrPasses eq) held rs
      → price_of_hits eq (λ x. g * (1 + other x)) held rs + g * schedule_missed_size eq other held rs ≡ g * sum_by (λ x. 1 + other x) rs
  hits_and_missed other g fits [] rs sched = absurd sched
  hits_and_missed other g fits (ks ∷ later) [] sched = omega arith
  hits_and_missed other g fits (ks ∷ later) (x ∷ rs) sched =
      let rest = hits_and_missed other g fits later rs sched.2 in
      rw (sum_by-cons (λ y. 1 + other y) x rs) (split (holds eq x ks)
      (λ t. rw t (omega (arith, rest)))
      (λ f. rw f (omega (arith, rest))))

  -- so no less is missed than what is requested less the most that can hit
  missed_at : (other : K → ℕ) (h g : ℕ) (schedule : List (List K)) (rs : List K) → 1 ≤ g → IsBypassScheduleBySize eq weight h ([] ∷ schedule) rs
      → sum_by (λ x. 1 + other x) rs - most_hits eq weight (λ x. 1 + other x) h g rs ≤ schedule_missed_size eq other ([] ∷ schedule) rs
  missed_at other h g schedule rs some sched =
      let all = hits_and_missed other g (λ ks. total eq weight ks ≤ h) ([] ∷ schedule) rs sched in
      let paid = hits_paid (λ x. g * (1 + other x)) h schedule rs sched in
      let spent = spared_after eq weight (λ x. g * (1 + other x)) [] rs + h * length rs in
      let requested = sum_by (λ x. 1 + other x) rs in
      let missed = schedule_missed_size eq other ([] ∷ schedule) rs in
      elim (cases_lt missed requested) [
        | inl less ↦
            let d : ℕ = requested - missed in
            let whole : g * requested ≡ g * (missed + d) = ap (λ n. g * n) (omega arith) in
            let most : d ≤ spent / g = (le-div_iff_mul-le some).1 (omega (arith, all, paid, whole)) in
            omega (arith, most)
        | inr more ↦ omega (arith, more)
      ]

-- the greatest of numbers that are at most m is at most m
greatest-le : (f : ℕ → ℕ) (n m : ℕ) (ms : List ℕ) → n ≤ m → AllByRecursion (λ i. f i ≤ m) ms → greatest_of f n ms ≤ m
greatest-le f n m [] first all = first
greatest-le f n m (i ∷ ms) first all = max-le all.0 (greatest-le f n m ms first all.1)

module _ {K : Type 0} (eq : K → K → Bool) (laws : IsEquivalence eq) where
  pub hits_are_paid : HitsArePaid eq
  hits_are_paid weight price h schedule rs same sched = hits_paid eq laws weight same price h schedule rs sched

  -- each gap is one at least
  each_gap : (P : ℕ → Type 0) → ((g : ℕ) → 1 ≤ g → P g) → (past rs : List K) → AllByRecursion P (gaps_after eq past rs)
  each_gap P all past [] = tt
  each_gap P all past (x ∷ rs) =
      let rest = each_gap P all (x ∷ past) rs in
      split (holds eq x past) (λ t. rw t (all (gap eq x past) (omega arith), rest)) (λ f. rw f rest)

  -- and each volume
  each_volume : (weight : K → ℕ) (P : ℕ → Type 0) → ((v : ℕ) → 1 ≤ v → P v) → (past rs : List K)
      → AllByRecursion P (volumes_after eq weight past rs)
  each_volume weight P all past [] = tt
  each_volume weight P all past (x ∷ rs) =
      let rest = each_volume weight P all (x ∷ past) rs in
      let some : gap eq x past * 1 ≤ volume eq weight x past = mul-le-mul_left (gap eq x past) (omega arith) in
      split (holds eq x past) (λ t. rw t (all (volume eq weight x past) (omega (arith, some)), rest)) (λ f. rw f rest)

  pub size_floor_is_below : SizeFloorIsBelow eq
  size_floor_is_below weight h schedule rs same sched =
      let missed = schedule_missed_size eq weight ([] ∷ schedule) rs in
      greatest-le (λ g. sum_by (λ x. 1 + weight x) rs - most_hits eq weight (λ x. 1 + weight x) h g rs) (total eq weight (reverse rs)) missed
      (gaps_after eq [] rs)
      (total_is_floor eq laws weight same (λ ks. total eq weight ks ≤ h) schedule rs sched)
      (each_gap (λ g. sum_by (λ x. 1 + weight x) rs - most_hits eq weight (λ x. 1 + weight x) h g rs ≤ missed)
      (λ g some. missed_at eq laws weight same weight h g schedule rs some sched) [] rs)

  pub floor_is_below : FloorIsBelow eq
  floor_is_below weight h schedule rs same sched =
      let missed = schedule_misses eq ([] ∷ schedule) rs in
      let at : (v : ℕ) → 1 ≤ v → length rs - most_hits eq weight (λ _. 1) h v rs ≤ missed = λ v some.
      rw (schedule_missed_weightless eq ([] ∷ schedule) rs, sum_by_ones rs) at (missed_at eq laws weight same (λ _. 0) h v schedule rs some sched) in
      greatest-le (λ v. length rs - most_hits eq weight (λ _. 1) h v rs) (distinct eq (reverse rs)) missed (volumes_after eq weight [] rs)
      (misses_distinct eq laws (λ ks. total eq weight ks ≤ h) schedule rs sched)
      (each_volume weight (λ v. length rs - most_hits eq weight (λ _. 1) h v rs ≤ missed) at [] rs)
    where
      sum_by_ones : (rs : List K) → sum_by (λ _. 1) rs ≡ length rs
      sum_by_ones [] = refl
      sum_by_ones (x ∷ rs) = omega (arith, sum_by-cons (λ (_ : K). 1) x rs, sum_by_ones rs)

  pub floor_is_below_least : FloorIsBelowLeast eq
  floor_is_below_least h n rs least =
      let a = least.attained in
      let sched = may_pass eq (λ ks. total eq (λ _. 0) ks ≤ h) ([] ∷ a.schedule) rs (schedule_weightless eq h ([] ∷ a.schedule) rs a.serves) in
      omega (arith, floor_is_below (λ _. 0) h a.schedule rs (λ _ _ _. refl) sched, a.misses)
