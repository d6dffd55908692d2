-- What is missed at a size against what any schedule misses; and so the misses at a capacity.
use Rattle.std.proofs.Common.{◌≡◌, ℕ, ◌+◌, ◌-◌, ◌*◌, ◌≤◌, Bool, true, false, cond, ◌||◌}
use Rattle.std.proofs.Common.{List, [], ◌∷◌, ◌++◌, refl, ap, ◌∙◌, subst, arith, inl, inr, append-nil, mul-le-mul_left, mul-le-mul_right}
use Rattle.std.proofs.Math.Bool.{or_comm}
use Rattle.std.proofs.lemmas.Bool.{or_left, or_right, or_cases, cases_lt, le-leb}
use Rattle.std.specs.Cmp.{IsEquivalence}
use Rattle.std.specs.List.{list_all}
use Rattle.clru_model.specs.Requests.{holds, since, misses}
use Rattle.clru_model.specs.Schedule.{Schedules, Serves, IsSchedule, schedule_misses, IsCompetitive, IsCompetitiveFromAnyStart}
use Rattle.clru_model.specs.SizedSchedule.{IsScheduleBySize, schedule_missed_size, IsCompetitiveBySize, IsCompetitiveBySizeFromAnyStart}
use Rattle.clru_model.specs.Sizes.{SameWeights, total, hit_by_size, missed_size_after, missed_size}
use Rattle.clru_model.proofs.Cases.{split}
use Rattle.clru_model.proofs.Marks.{count_by-not-cons, missed-le}
use Rattle.clru_model.proofs.Distinct.{distinct-le-length, held_of_all, since-append, holds-append, holds_same, since_within, total_mono, total_since_less}
use Rattle.clru_model.proofs.Spans.{missed_weightless}

-- The induction's claim on numbers, with n = c - h + 1 and g = h - 1: what is to be missed, m, and the size d of the phase so far are paid for by
-- what the schedule is to miss, s, and by the size u of the keys seen, of which at most e was missed
abbrev Paid : (n g m d s u e : ℕ) → Type 0
Paid n g m d s u e = n * m + n * d ≤ (n + g) * s + n * u + g * e

-- a request of the phase, at which the schedule misses c
paid_old : (n g m d s u e c : ℕ) → Paid n g m d s u e → Paid n g (0 + m) d (c + s) u e
paid_old n g m d s u e c ih = omega arith

-- a request of the size z that is new to the phase, of which b is missed, and c by the schedule
paid_new : (n g m d s u e b c z : ℕ) → b ≤ z → Paid n g m (z + d) s (c + u) (c + e) → Paid n g (b + m) d (c + s) u e
paid_new n g m d s u e b c z once ih = let p = mul-le-mul_left n once in omega (arith, p, ih)

-- a request that is new to a phase that has no room for it: it begins a new one
paid_full : (n g m d s u e b c z : ℕ) → 1 ≤ z → b ≤ z → Paid n g m z s (g + 1) 0 → n + g + 1 ≤ z + d → u ≤ g + 1 + e → z + d ≤ c + u
    → Paid n g (b + m) d (c + s) u e
paid_full n g m d s u e b c z some once ih full near seen =
    let p = mul-le-mul_left n once in
    let q = mul-le-mul_left n some in
    let r = mul-le-mul_left n seen in
    let t : g * n ≤ g * (c + e) = mul-le-mul_left g (omega arith) in
    omega (arith, p, q, r, t, ih)

module _ {K : Type 0} (eq : K → K → Bool) where
  -- the keys that a schedule holds now fit
  pub schedule_fits : (fits : List K → Type 0) (held : List K) (later : List (List K)) (rs : List K)
      → Schedules fits (Serves eq) (held ∷ later) rs → fits held
  schedule_fits fits held later [] sched = sched.0
  schedule_fits fits held later (x ∷ rs) sched = sched.0

  -- what a schedule of requests that weigh nothing misses is its misses
  pub schedule_missed_weightless : (held : List (List K)) (rs : List K) → schedule_missed_size eq (λ _. 0) held rs ≡ schedule_misses eq held rs
  schedule_missed_weightless [] rs = refl
  schedule_missed_weightless (ks ∷ later) [] = refl
  schedule_missed_weightless (ks ∷ later) (x ∷ rs) = rw (count_by-not-cons (holds eq x ks)) (ap (λ n. cond (holds eq x ks) 0 1 + n) (schedule_missed_weightless later rs))

  -- and one of few keys is one of as small a size
  pub schedule_weightless : (h : ℕ) (held : List (List K)) (rs : List K) → IsSchedule eq h held rs → IsScheduleBySize eq (λ _. 0) h held rs
  schedule_weightless h [] rs sched = sched
  schedule_weightless h (ks ∷ later) [] sched = (omega (arith, sched.0, distinct-le-length eq ks), sched.1)
  schedule_weightless h (ks ∷ later) (x ∷ rs) sched =
      (omega (arith, sched.0, distinct-le-length eq ks), sched.1, schedule_weightless h later rs sched.2)

module _ {K : Type 0} (eq : K → K → Bool) (laws : IsEquivalence eq) (weight : K → ℕ) (same : SameWeights eq weight) where
  abbrev size : K → ℕ
  size x = 1 + weight x

  -- a key of the latest requests, which are of the size c at most, hits at c
  hit_within : (c : ℕ) (x : K) (phase older : List K) → holds eq x phase ≡ true → total eq weight phase ≤ c
      → hit_by_size eq weight c x (phase ++ older) ≡ true
  hit_within c x phase older h few =
      let less = total_since_less eq laws weight same x phase phase h (λ z g. since_within eq laws x z phase g) in
      rw (holds-append eq x phase older, h, since-append eq laws x phase older h)
      (le-leb (size x + total eq weight (since eq x phase)) c (omega (arith, less)))

  -- the keys held after a request, and the phase with it, are those before and the request's
  served_within : (held next phase : List K) (x : K) → list_all (λ q. holds eq q (x ∷ held)) next ≡ true
      → total eq weight (next ++ x ∷ phase) ≤ total eq weight (x ∷ (held ++ phase))
  served_within held next phase x all = total_mono eq laws weight same (next ++ x ∷ phase) (x ∷ (held ++ phase)) (λ z h.
      split (eq z x) (λ t. rw t refl) (λ f. rw (f, holds-append eq z held phase)
      (elim (or_cases (holds eq z next) (holds eq z (x ∷ phase)) (rw holds-append at h)) [
        | inl a ↦ or_left (holds eq z held) (holds eq z phase) (rw f at (held_of_all eq laws next (x ∷ held) all z a))
        | inr b ↦ or_right (holds eq z held) (holds eq z phase) (rw f at b)
      ])))

  -- a key of the phase is held beside the keys held
  beside : (held phase : List K) (z : K) → holds eq z phase ≡ true → holds eq z (held ++ phase) ≡ true
  beside held phase z h = rw holds-append (or_right (holds eq z held) (holds eq z phase) h)

  -- the phase is of no greater size than it is with the keys held
  phase_seen : (held phase : List K) → total eq weight phase ≤ total eq weight (held ++ phase)
  phase_seen held phase = total_mono eq laws weight same phase (held ++ phase) (beside held phase)

  -- The bound for the requests to come, whatever the past is: a phase of the size n + g at most before older requests. The keys held and the
  -- phase are of the size u at most.
  abbrev IsBounded : (n g : ℕ) (held : List K) (later : List (List K)) (rs : List K) → Type 0
  IsBounded n g held later rs = (phase older : List K) (u e : ℕ) → total eq weight phase ≤ n + g → total eq weight (held ++ phase) ≤ u → u ≤ g + 1 + e
      → Paid n g (missed_size_after eq weight (n + g) (phase ++ older) rs) (total eq weight phase) (schedule_missed_size eq weight (held ∷ later) rs) u e

  -- the keys held after a request of x, and the phase with it: x more than before where it is new to both
  seen_next : (held next phase : List K) (x : K) (u : ℕ) → list_all (λ q. holds eq q (x ∷ held)) next ≡ true → total eq weight (held ++ phase) ≤ u
      → total eq weight (next ++ x ∷ phase) ≤ cond (holds eq x phase || holds eq x held) 0 (size x) + u
  seen_next held next phase x u all seen =
      let within = served_within held next phase x all in
      rw (or_comm (holds eq x phase) (holds eq x held), ← holds-append eq x held phase) (split (holds eq x (held ++ phase))
      (λ t. rw t (omega (arith, rw t at within))) (λ f. rw f (omega (arith, rw f at within))))

  -- the keys held after a request of x, and x
  seen_alone : (next : List K) (x : K) → holds eq x next ≡ true → total eq weight (next ++ x ∷ []) ≤ total eq weight next
  seen_alone next x served = total_mono eq laws weight same (next ++ x ∷ []) next (λ z h.
      elim (or_cases (holds eq z next) (holds eq z (x ∷ [])) (rw holds-append at h)) [
        | inl a ↦ a
        | inr b ↦ elim (or_cases (eq z x) false b) [ inl c ↦ holds_same eq laws z x next c ∙ served | inr d ↦ cc ]
      ])

  -- a key that is held is of no greater size than all that is held
  served_size : (next : List K) (x : K) → holds eq x next ≡ true → size x ≤ total eq weight next
  served_size next x served =
      let m = total_mono eq laws weight same (x ∷ []) next (λ z h.
      elim (or_cases (eq z x) false h) [ inl c ↦ holds_same eq laws z x next c ∙ served | inr d ↦ cc ]) in
      omega (arith, m)

  -- a key that is new to the phase is beside it, held or missed
  seen_beside : (held phase : List K) (x : K) → holds eq x phase ≡ false
      → size x + total eq weight phase ≤ cond (holds eq x held) 0 (size x) + total eq weight (held ++ phase)
  seen_beside held phase x new =
      split (holds eq x held)
      (λ t.
      let here : holds eq x (held ++ phase) ≡ true = rw holds-append (or_left (holds eq x held) (holds eq x phase) t) in
      let m = total_mono eq laws weight same (x ∷ phase) (held ++ phase) (λ z h.
      split (eq z x) (λ c. holds_same eq laws z x (held ++ phase) c ∙ here) (λ d. beside held phase z (rw d at h))) in
      rw t (omega (arith, rw new at m)))
      (λ f. rw f (omega (arith, phase_seen held phase)))

  -- the bound with one more request in front
  bound_cons : (n g : ℕ) (held next : List K) (later : List (List K)) (x : K) (rs : List K) → 1 ≤ n
      → list_all (λ q. holds eq q (x ∷ held)) next ≡ true
      → holds eq x next ≡ true → total eq weight next ≤ g + 1 → IsBounded n g next later rs → IsBounded n g held (next ∷ later) (x ∷ rs)
  bound_cons n g held next later x rs pos all served short rest phase older u e few seen near =
      let after = seen_next held next phase x u all seen in
      let hits = hit_by_size eq weight (n + g) x (phase ++ older) in
      let m = missed_size_after eq weight (n + g) (x ∷ (phase ++ older)) rs in
      let s = schedule_missed_size eq weight (next ∷ later) rs in
      let z : ℕ = size x in
      let c : ℕ = cond (holds eq x held) 0 z in
      let d : ℕ = total eq weight phase in
      split (holds eq x phase)
      (λ old.
      let kept : total eq weight (x ∷ phase) ≡ d = rw old refl in
      let ih = rest (x ∷ phase) older u e (rw kept few) (omega (arith, rw old at after)) near in
      rw (hit_within (n + g) x phase older old few) (paid_old n g m d s u e c (rw kept at ih)))
      (λ new.
      let more : total eq weight (x ∷ phase) ≡ z + d = rw new refl in
      elim (cases_lt (n + g) (z + d)) [
        | inl full ↦
            let alone = seen_alone next x served in
            let ih = rest (x ∷ []) (phase ++ older) (g + 1) 0 (omega (arith, served_size next x served)) (omega (arith, alone, short)) (omega arith) in
            let one : total eq weight (x ∷ []) ≡ z = omega arith in
            paid_full n g m d s u e (cond hits 0 z) c z (omega arith) (missed-le hits z) (rw one at ih) (omega arith) near (omega (arith, seen_beside held phase x new, seen))
        | inr room ↦
            let ih = rest (x ∷ phase) older (c + u) (c + e) (rw more (omega arith)) (rw new at after) (omega arith) in
            paid_new n g m d s u e (cond hits 0 z) c z (missed-le hits z) (rw more at ih)
      ])

  -- the bound for the requests to come
  bound_after : (n g : ℕ) (held : List K) (later : List (List K)) (rs : List K) → 1 ≤ n → IsScheduleBySize eq weight (g + 1) (held ∷ later) rs
      → IsBounded n g held later rs
  bound_after n g held later [] pos sched = λ phase older u e few seen near.
      let p : n * total eq weight phase ≤ n * u = mul-le-mul_left n (omega (arith, phase_seen held phase, seen)) in
      omega (arith, p)
  bound_after n g held [] (x ∷ rs) pos sched = absurd sched.1
  bound_after n g held (next ∷ later) (x ∷ rs) pos sched =
      bound_cons n g held next later x rs pos sched.1.0 sched.1.1
      (schedule_fits eq (λ ks. total eq weight ks ≤ g + 1) next later rs sched.2)
      (bound_after n g next later rs pos sched.2)

  -- the bound for numbers n = c - h + 1 and g = h - 1
  bound_by : (n g : ℕ) (start : List K) (schedule : List (List K)) (rs : List K) → 1 ≤ n → IsScheduleBySize eq weight (g + 1) (start ∷ schedule) rs
      → n * missed_size eq weight (n + g) rs ≤ (n + g) * schedule_missed_size eq weight (start ∷ schedule) rs + total eq weight start * n
  bound_by n g start schedule rs pos sched =
      let short = schedule_fits eq (λ ks. total eq weight ks ≤ g + 1) start schedule rs sched in
      let seen : total eq weight (start ++ []) ≤ total eq weight start = rw append-nil (omega arith) in
      let p = bound_after n g start schedule rs pos sched [] [] (total eq weight start) 0 (omega arith) seen (omega arith) in
      omega (arith, p)

  -- against a schedule of the size h that may start with any keys, a size c of at least h misses at most c / (c - h + 1) times as much, and
  -- once more the size of the start
  missed_size_bound : (h c : ℕ) (start : List K) (schedule : List (List K)) (rs : List K) → 1 ≤ h → h ≤ c
      → IsScheduleBySize eq weight h (start ∷ schedule) rs
      → (c - h + 1) * missed_size eq weight c rs
      ≤ c * schedule_missed_size eq weight (start ∷ schedule) rs + total eq weight start * (c - h + 1)
  missed_size_bound h c start schedule rs pos within sched =
      let eh : h ≡ (h - 1) + 1 = omega arith in
      let ec : (c - h + 1) + (h - 1) ≡ c = omega arith in
      subst (λ k. (c - h + 1) * missed_size eq weight k rs
      ≤ k * schedule_missed_size eq weight (start ∷ schedule) rs + total eq weight start * (c - h + 1)) ec
      (bound_by (c - h + 1) (h - 1) start schedule rs (omega arith) (subst (λ k. IsScheduleBySize eq weight k (start ∷ schedule) rs) eh sched))

  -- the bound against each schedule by size that starts empty
  pub competitive_by_size : (c : ℕ) (rs : List K) → IsCompetitiveBySize eq weight c rs (missed_size eq weight c rs)
  competitive_by_size c rs h schedule pos within sched = omega (arith, missed_size_bound h c [] schedule rs pos within sched)

  -- a schedule of the size h starts with that size at most
  pub competitive_by_size_from_any_start : (c : ℕ) (rs : List K) → IsCompetitiveBySizeFromAnyStart eq weight c rs (missed_size eq weight c rs)
  competitive_by_size_from_any_start c rs h [] pos within sched = absurd sched
  competitive_by_size_from_any_start c rs h (start ∷ schedule) pos within sched =
      let short = schedule_fits eq (λ ks. total eq weight ks ≤ h) start schedule rs sched in
      let kept : total eq weight start * (c - h + 1) ≤ h * (c - h + 1) = mul-le-mul_right (c - h + 1) short in
      omega (arith, missed_size_bound h c start schedule rs pos within sched, kept)

-- The bound by number is that of requests that weigh nothing.
module _ {K : Type 0} (eq : K → K → Bool) (laws : IsEquivalence eq) where
  pub competitive : (k : ℕ) (rs : List K) → IsCompetitive eq k rs (misses eq k rs)
  competitive k rs h schedule pos within sched =
      let all = competitive_by_size eq laws (λ _. 0) (λ _ _ _. refl) k rs h schedule pos within (schedule_weightless eq h ([] ∷ schedule) rs sched) in
      rw (missed_weightless eq (λ _. 0) (λ _. refl) k [] rs, schedule_missed_weightless eq ([] ∷ schedule) rs) at all

  pub competitive_from_any_start : (k : ℕ) (rs : List K) → IsCompetitiveFromAnyStart eq k rs (misses eq k rs)
  competitive_from_any_start k rs h schedule pos within sched =
      let all = competitive_by_size_from_any_start eq laws (λ _. 0) (λ _ _ _. refl) k rs h schedule pos within (schedule_weightless eq h schedule rs sched) in
      rw (missed_weightless eq (λ _. 0) (λ _. refl) k [] rs, schedule_missed_weightless eq schedule rs) at all
