-- The computed schedules are the schedules by positions.
use Rattle.std.proofs.Common.{◌≡◌, ℕ, zero, suc, ◌+◌, ◌≤◌, Bool, true, false, ◌↔◌, ◌⊎◌}
use Rattle.std.proofs.Common.{List, [], ◌∷◌, length, refl, subst, subst₂, arith, add-one, Some, inl, inr}
use Rattle.std.proofs.lemmas.List.{nil_from_length}
use Rattle.std.proofs.lemmas.Bool.{or_cases, or_left, or_right}
use Rattle.std.proofs.lemmas.Option.{same_Some}
use Rattle.std.specs.List.{slice_get, list_all}
use Rattle.clru_model.specs.Requests.{holds}
use Rattle.clru_model.specs.Schedule.{IsSchedule, schedule_marks}
use Rattle.clru_model.specs.ByPosition.{HasKey, IsScheduleAt, IsScheduleMissAt}
use Rattle.clru_model.proofs.Positions.{list_all_at, list_all_from_positions, HasKey_from_holds, holds_from_HasKey, LacksKey_from_holds, holds_from_LacksKey}

module _ {K : Type 0} (eq : K → K → Bool) where
  -- a schedule by positions without its first request
  IsScheduleAt_rest : (h : ℕ) (ks : List K) (later : List (List K)) (x : K) (rs : List K)
      → IsScheduleAt eq h (ks ∷ later) (x ∷ rs) → IsScheduleAt eq h later rs
  IsScheduleAt_rest h ks later x rs s = record {
    one_more = omega (arith, s.one_more);
    short = λ i l at. s.short (suc i) l at;
    kept_or_requested = λ i l next y at after asked. s.kept_or_requested (suc i) l next y at (rw add-one (rw add-one at after)) asked;
    served = λ i next y after asked. s.served (suc i) next y (rw add-one (rw add-one at after)) asked;
  }

  -- a schedule by positions is one
  IsSchedule_from_positions : (h : ℕ) (held : List (List K)) (rs : List K) → IsScheduleAt eq h held rs → IsSchedule eq h held rs
  IsSchedule_from_positions h [] rs s = absurd (omega (arith, s.one_more))
  IsSchedule_from_positions h (ks ∷ later) [] s = (s.short 0 ks refl, nil_from_length later (omega (arith, s.one_more)))
  IsSchedule_from_positions h (ks ∷ []) (x ∷ rs) s = absurd (omega (arith, s.one_more))
  IsSchedule_from_positions h (ks ∷ next ∷ later) (x ∷ rs) s =
      let all = list_all_from_positions (λ q. holds eq q (x ∷ ks)) next (λ p q at.
      elim (s.kept_or_requested 0 ks next x refl refl refl p q at) [
        | inl k ↦ or_right (eq q x) (holds eq q ks) (holds_from_HasKey eq ks q k)
        | inr t ↦ or_left (eq q x) (holds eq q ks) t
      ]) in
      let rest = IsSchedule_from_positions h (next ∷ later) rs (IsScheduleAt_rest h ks (next ∷ later) x rs s) in
      (s.short 0 ks refl, (all, holds_from_HasKey eq next x (s.served 0 next x refl refl)), rest)

  -- the first list held is short too
  short_cons : (h : ℕ) (ks : List K) (later : List (List K)) → length ks ≤ h → ((i : ℕ) (l : List K) → slice_get later i ≡ Some l → length l ≤ h)
      → (i : ℕ) (l : List K) → slice_get (ks ∷ later) i ≡ Some l → length l ≤ h
  short_cons h ks later few rest zero l at = let e : ks ≡ l = same_Some _ _ at in rw e at few
  short_cons h ks later few rest (suc i) l at = rest i l at

  -- after the first request each key held was held before it or is the request's
  kept_first : (ks next : List K) (x : K) → list_all (λ q. holds eq q (x ∷ ks)) next ≡ true
      → (p : ℕ) (q : K) → slice_get next p ≡ Some q → HasKey eq q ks ⊎ (eq q x ≡ true)
  kept_first ks next x all p q at =
      elim (or_cases (eq q x) (holds eq q ks) (list_all_at (λ k. holds eq k (x ∷ ks)) next p q all at)) [
        | inl t ↦ inr t
        | inr k ↦ inl (HasKey_from_holds eq ks q k)
      ]

  -- a schedule by positions with one more request in front
  IsScheduleAt_cons : (h : ℕ) (ks next : List K) (later : List (List K)) (x : K) (rs : List K) → length ks ≤ h
      → list_all (λ q. holds eq q (x ∷ ks)) next ≡ true
      → holds eq x next ≡ true → IsScheduleAt eq h (next ∷ later) rs → IsScheduleAt eq h (ks ∷ next ∷ later) (x ∷ rs)
  IsScheduleAt_cons h ks next later x rs few all held s = record {
    one_more = omega (arith, s.one_more);
    short = short_cons h ks (next ∷ later) few s.short;
    kept_or_requested = kept;
    served = served;
  }
    where
      kept : (i : ℕ) (l m : List K) (y : K) → slice_get (ks ∷ next ∷ later) i ≡ Some l → slice_get (ks ∷ next ∷ later) (i + 1) ≡ Some m
          → slice_get (x ∷ rs) i ≡ Some y → (p : ℕ) (q : K) → slice_get m p ≡ Some q → HasKey eq q l ⊎ (eq q y ≡ true)
      kept zero l m y at after asked =
          subst₂ (λ (a : List K) (b : K). (p : ℕ) (q : K) → slice_get m p ≡ Some q → HasKey eq q a ⊎ (eq q b ≡ true))
          (same_Some _ _ at) (same_Some _ _ asked)
          (subst (λ (c : List K). (p : ℕ) (q : K) → slice_get c p ≡ Some q → HasKey eq q ks ⊎ (eq q x ≡ true))
          (same_Some _ _ after) (kept_first ks next x all))
      kept (suc i) l m y at after asked = s.kept_or_requested i l m y at (rw add-one (rw add-one at after)) asked

      served : (i : ℕ) (m : List K) (y : K) → slice_get (ks ∷ next ∷ later) (i + 1) ≡ Some m → slice_get (x ∷ rs) i ≡ Some y → HasKey eq y m
      served zero m y after asked =
          subst₂ (λ (a : List K) (b : K). HasKey eq b a) (same_Some _ _ after) (same_Some _ _ asked) (HasKey_from_holds eq next x held)
      served (suc i) m y after asked = s.served i m y (rw add-one (rw add-one at after)) asked

  -- a schedule is one by positions
  IsScheduleAt_from_schedule : (h : ℕ) (held : List (List K)) (rs : List K) → IsSchedule eq h held rs → IsScheduleAt eq h held rs
  IsScheduleAt_from_schedule h [] rs s = absurd s
  IsScheduleAt_from_schedule h (ks ∷ later) [] s = rw s.1 (record {
    one_more = refl;
    short = short_cons h ks [] s.0 (λ i l at. cc);
    kept_or_requested = λ i l next x at after asked. cc;
    served = λ i next x after asked. cc;
  })
  IsScheduleAt_from_schedule h (ks ∷ []) (x ∷ rs) s = absurd s.1
  IsScheduleAt_from_schedule h (ks ∷ next ∷ later) (x ∷ rs) s =
      IsScheduleAt_cons h ks next later x rs s.0 s.1.0 s.1.1 (IsScheduleAt_from_schedule h (next ∷ later) rs s.2)

  -- a false mark of a schedule is a miss by positions
  IsScheduleMissAt_from_marks : (held : List (List K)) (rs : List K) (i : ℕ)
      → slice_get (schedule_marks eq held rs) i ≡ Some false → IsScheduleMissAt eq held rs i
  IsScheduleMissAt_from_marks [] rs i h = cc
  IsScheduleMissAt_from_marks (ks ∷ later) [] i h = cc
  IsScheduleMissAt_from_marks (ks ∷ later) (x ∷ rs) zero h =
      record { key = x; requested = refl; keys = ks; held_before = refl; not_held = LacksKey_from_holds eq ks x (same_Some _ _ h) }
  IsScheduleMissAt_from_marks (ks ∷ later) (x ∷ rs) (suc i) h =
      let r = IsScheduleMissAt_from_marks later rs i h in
      record { key = r.key; requested = r.requested; keys = r.keys; held_before = r.held_before; not_held = r.not_held }

  -- a request whose key is not held before it has a false mark
  schedule_mark_false : (held : List (List K)) (rs : List K) (i : ℕ) (x : K) (ks : List K) → slice_get rs i ≡ Some x
      → slice_get held i ≡ Some ks → holds eq x ks ≡ false → slice_get (schedule_marks eq held rs) i ≡ Some false
  schedule_mark_false [] rs i x ks asked at none = cc
  schedule_mark_false (l ∷ later) [] i x ks asked at none = cc
  schedule_mark_false (l ∷ later) (y ∷ rs) zero x ks asked at none = cc
  schedule_mark_false (l ∷ later) (y ∷ rs) (suc i) x ks asked at none = schedule_mark_false later rs i x ks asked at none

  -- the schedules are the schedules by positions
  pub schedules_by_position : (h : ℕ) (held : List (List K)) (rs : List K) → IsSchedule eq h held rs ↔ IsScheduleAt eq h held rs
  schedules_by_position h held rs = (IsScheduleAt_from_schedule h held rs, IsSchedule_from_positions h held rs)

  -- the false marks of a schedule are its misses by positions
  pub schedule_misses_by_position : (held : List (List K)) (rs : List K) (i : ℕ)
      → (slice_get (schedule_marks eq held rs) i ≡ Some false) ↔ IsScheduleMissAt eq held rs i
  schedule_misses_by_position held rs i = (
    IsScheduleMissAt_from_marks held rs i,
    λ r. schedule_mark_false held rs i r.key r.keys r.requested r.held_before (holds_from_LacksKey eq r.keys r.key r.not_held),
  )
