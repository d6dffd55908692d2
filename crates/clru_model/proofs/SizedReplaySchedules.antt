-- A replay by size is a schedule: it holds the keys whose span is at most the size. So no floor is above what it misses.
use Rattle.std.proofs.Common.{◌≡◌, ℕ, ◌+◌, ◌≤◌, Bool, true, false, cond, not, leb, leb-true, ◌&&◌, List, [], ◌∷◌, ◌++◌, append-nil, append_assoc, refl, sym, ap, ◌∙◌, subst, arith}
use Rattle.std.proofs.lemmas.Bool.{and_parts, and_from, or_parts, le-leb}
use Rattle.std.proofs.lemmas.List.Elements.{filter-append}
use Rattle.std.specs.Cmp.{IsEquivalence}
use Rattle.std.specs.List.{count_by, filter}
use Rattle.clru_model.specs.Floor.{FloorIsBelowReplay, SizeFloorIsBelowReplay, IsBypassScheduleBySize}
use Rattle.clru_model.specs.Requests.{holds, since}
use Rattle.clru_model.specs.Schedule.{schedule_marks}
use Rattle.clru_model.specs.SizedSchedule.{schedule_missed_size}
use Rattle.clru_model.specs.Sizes.{SameWeights, total, hit_by_size, marks_by_size_after, missed_size_after}
use Rattle.clru_model.proofs.Cases.{split}
use Rattle.clru_model.proofs.Distinct.{holds_same, holds-append, since-cons, sum_mono, same_size}
use Rattle.clru_model.proofs.Floor.{floor_is_below, since_same, size_floor_is_below}
use Rattle.clru_model.proofs.ReplaySchedules.{all_held}

module _ {K : Type 0} (eq : K → K → Bool) (laws : IsEquivalence eq) where
  -- a key is among those that pass a test where it passes and is there
  pub holds-filter : (test : K → Bool) → ((y z : K) → eq y z ≡ true → test y ≡ test z) → (x : K) (ks : List K)
      → holds eq x (filter test ks) ≡ (test x && holds eq x ks)
  holds-filter test alike x [] = split (test x) (λ t. rw t refl) (λ f. rw f refl)
  holds-filter test alike x (y ∷ ks) =
      let ih = holds-filter test alike x ks in
      split (test y)
      (λ t. split (eq x y)
      (λ u. let passes : test x ≡ true = alike x y u ∙ t in rw (t, u, passes) refl)
      (λ v. rw (t, v) ih))
      (λ f. split (eq x y)
      (λ u. let fails : test x ≡ false = alike x y u ∙ f in rw (f, u, fails) (rw fails at ih))
      (λ v. rw (f, v) ih))

  -- the requests in front of the first one of y are those since y
  since_front : (y : K) (front back : List K) → holds eq y front ≡ false → since eq y (front ++ y ∷ back) ≡ front
  since_front y [] back new = rw (since-cons eq y y back, laws.refl y) refl
  since_front y (z ∷ front) back new =
      let parts = or_parts (eq y z) (holds eq y front) new in
      rw (since-cons eq y z (front ++ y ∷ back), parts.0) (ap (λ l. z ∷ l) (since_front y front back parts.1))

module _ {K : Type 0} (eq : K → K → Bool) (laws : IsEquivalence eq) (weight : K → ℕ) (same : SameWeights eq weight) (c : ℕ) where
  -- the keys that hit after the requests of the past, if they are requested next
  abbrev pub spanned : List K → List K
  spanned past = filter (λ z. hit_by_size eq weight c z past) past

  hits_alike : (past : List K) (x y : K) → eq x y ≡ true → hit_by_size eq weight c x past ≡ hit_by_size eq weight c y past
  hits_alike past x y e = rw (holds_same eq laws x y past e, since_same eq laws weight same x y past e, same x y e) refl

  pub holds_spanned : (past : List K) (x : K) → holds eq x (spanned past) ≡ hit_by_size eq weight c x past
  holds_spanned past x =
      holds-filter eq laws (λ z. hit_by_size eq weight c z past) (hits_alike past) x past
      ∙ split (holds eq x past) (λ t. rw t (split (leb (1 + weight x + total eq weight (since eq x past)) c) (λ u. rw u refl) (λ v. rw v refl))) (λ f. rw f refl)

  -- together they are no greater than the size
  spanned_from : (past front back : List K) → past ≡ front ++ back
      → total eq weight (filter (λ z. hit_by_size eq weight c z past) front) ≤ c → total eq weight (spanned past) ≤ c
  spanned_from past front [] whole fits =
      subst (λ l. total eq weight (filter (λ z. hit_by_size eq weight c z past) l) ≤ c) (sym (whole ∙ append-nil front)) fits
  spanned_from past front (y ∷ back) whole fits =
      let test = λ (z : K). hit_by_size eq weight c z past in let kept = filter test front in
      let split_off : filter test (front ++ y ∷ []) ≡ kept ++ filter test (y ∷ []) = filter-append test front (y ∷ []) in
      spanned_from past (front ++ y ∷ []) back (whole ∙ sym (append_assoc front (y ∷ []) back))
      (split (test y)
      (λ t. let more = sum_mono eq laws (λ x. 1 + weight x) (same_size eq laws weight same) (kept ++ y ∷ []) (y ∷ kept) (λ z h.
      split (eq z y) (λ u. rw u refl)
      (λ v. rw v (let there = rw (holds-append eq z kept (y ∷ [])) at h in split (holds eq z kept) (λ a. a) (λ b. cc (rw (b, v) at there))))) in
      rw (split_off, t) (split (holds eq y kept)
      (λ u. omega (arith, rw u at more, fits))
      (λ v. let new : holds eq y front ≡ false =
      split (holds eq y front) (λ a. cc (rw (t, a) at (sym (holds-filter eq laws test (hits_alike past) y front) ∙ v))) (λ b. b) in
      let parts = and_parts (holds eq y past) (leb (1 + weight y + total eq weight (since eq y past)) c) t in
      let spans = leb-true (1 + weight y + total eq weight (since eq y past)) c parts.1 in
      let since_is : since eq y past ≡ front = ap (since eq y) whole ∙ since_front eq laws y front back new in
      let less = sum_mono eq laws (λ x. 1 + weight x) (same_size eq laws weight same) kept front (λ z h.
      (and_parts (test z) (holds eq z front) (sym (holds-filter eq laws test (hits_alike past) z front) ∙ h)).1) in
      omega (arith, rw v at more, spans, ap (total eq weight) since_is, less))))
      (λ f. rw (split_off, f, append-nil kept) fits))

  pub spanned_fits : (past : List K) → total eq weight (spanned past) ≤ c
  spanned_fits past = spanned_from past [] past refl (omega arith)

  -- none comes in but the requested one
  pub spanned_serves : (past : List K) (x z : K) → holds eq z (spanned (x ∷ past)) ≡ true → holds eq z (x ∷ spanned past) ≡ true
  spanned_serves past x z held =
      let hit = sym (holds_spanned (x ∷ past) z) ∙ held in
      split (eq z x) (λ t. rw t refl)
      (λ f. let parts = and_parts (holds eq z (x ∷ past)) (leb (1 + weight z + total eq weight (since eq z (x ∷ past))) c) hit in
      let before : holds eq z past ≡ true = rw f at parts.0 in
      let spans = leb-true (1 + weight z + total eq weight (since eq z (x ∷ past))) c parts.1 in
      let longer : since eq z (x ∷ past) ≡ x ∷ since eq z past = rw (since-cons eq z x past, f) refl in
      let less = sum_mono eq laws (λ y. 1 + weight y) (same_size eq laws weight same) (since eq z past) (x ∷ since eq z past)
      (λ w h. split (eq w x) (λ u. rw u refl) (λ v. rw v h)) in
      let low = le-leb (1 + weight z + total eq weight (since eq z past)) c (omega (arith, spans, ap (total eq weight) longer, less)) in
      rw f (holds_spanned past z ∙ and_from (holds eq z past) (leb (1 + weight z + total eq weight (since eq z past)) c) before low))

  -- the keys held after each request
  abbrev pub replayed : List K → List K → List (List K)
  replayed past [] = []
  replayed past (x ∷ rs) = spanned (x ∷ past) ∷ replayed (x ∷ past) rs

  pub replayed_serves : (past rs : List K) → IsBypassScheduleBySize eq weight c (spanned past ∷ replayed past rs) rs
  replayed_serves past [] = (spanned_fits past, refl)
  replayed_serves past (x ∷ rs) = (
    spanned_fits past,
    all_held eq (spanned (x ∷ past)) (x ∷ spanned past) (spanned_serves past x) laws,
    replayed_serves (x ∷ past) rs,
  )

  replayed_marks : (past rs : List K) → schedule_marks eq (spanned past ∷ replayed past rs) rs ≡ marks_by_size_after eq weight c past rs
  replayed_marks past [] = refl
  replayed_marks past (x ∷ rs) = cc (holds_spanned past x, replayed_marks (x ∷ past) rs)

  pub replayed_misses : (past rs : List K) → schedule_missed_size eq weight (spanned past ∷ replayed past rs) rs ≡ missed_size_after eq weight c past rs
  replayed_misses past [] = refl
  replayed_misses past (x ∷ rs) =
      ap (λ b. cond b 0 (1 + weight x) + schedule_missed_size eq weight (replayed past (x ∷ rs)) rs) (holds_spanned past x)
      ∙ ap (λ n. cond (hit_by_size eq weight c x past) 0 (1 + weight x) + n) (replayed_misses (x ∷ past) rs)

module _ {K : Type 0} (eq : K → K → Bool) (laws : IsEquivalence eq) where
  pub floor_below_replay : FloorIsBelowReplay eq
  floor_below_replay weight c rs same = omega (
    arith,
    floor_is_below eq laws weight c (replayed eq laws weight same c [] rs) rs same (replayed_serves eq laws weight same c [] rs),
    ap (count_by not) (replayed_marks eq laws weight same c [] rs),
  )

  pub size_floor_below_replay : SizeFloorIsBelowReplay eq
  size_floor_below_replay weight c rs same = omega (
    arith,
    size_floor_is_below eq laws weight c (replayed eq laws weight same c [] rs) rs same (replayed_serves eq laws weight same c [] rs),
    replayed_misses eq laws weight same c [] rs,
  )
