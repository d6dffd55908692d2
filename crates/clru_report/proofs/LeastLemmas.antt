-- The least possible misses of requests that are compared by a view of them are those of their views.
use Rattle.std.proofs.Common.{◌≡◌, ℕ, ◌≤◌, Bool, true, false, cond, not, ◌&&◌, ◌||◌, List, [], ◌∷◌, map, refl, sym, ap, subst, ◌∙◌, arith}
use Rattle.std.specs.Bool.{Decides}
use Rattle.std.specs.List.{list_any, list_all, count_by}
use Rattle.std.proofs.lemmas.List.{length-map}
use Rattle.std.proofs.lemmas.List.Sums.{sum_by-cons}
use Rattle.clru_model.proofs.Cases.{split}
use Rattle.clru_model.specs.Requests.{holds}
use Rattle.clru_model.specs.Schedule.{IsSchedule, schedule_marks, schedule_misses}
use Rattle.clru_model.specs.Least.{IsAttained, IsLeast}
use Rattle.clru_model.proofs.Views.{same, holds-map}

or_left : (a b : Bool) → a ≡ true → (a || b) ≡ true
or_left true b h = refl
or_left false b h = cc

or_right : (a b : Bool) → b ≡ true → (a || b) ≡ true
or_right true b h = refl
or_right false b h = h

and_left : (a b : Bool) → (a && b) ≡ true → a ≡ true
and_left true b h = refl
and_left false b h = h

and_right : (a b : Bool) → (a && b) ≡ true → b ≡ true
and_right true b h = h
and_right false b h = cc

and_both : (a b : Bool) → a ≡ true → b ≡ true → (a && b) ≡ true
and_both true b h k = k
and_both false b h k = h

-- what is found where something else is misses no more
missed_less : (p q : Bool) → (q ≡ true → p ≡ true) → cond (not p) 1 0 ≤ cond (not q) 1 0
missed_less true q h = omega arith
missed_less false true h = let no = h refl in cc
missed_less false false h = omega arith

module _ {X Y : Type 0} (eq : Y → Y → Bool) (decides : (a b : Y) → Decides (eq a b) (a ≡ b)) (view : X → Y) where
  -- forth: a schedule of keys is one of their views
  all_held-view : (x : X) (ks next : List X) → list_all (λ q. holds (same eq view) q (x ∷ ks)) next ≡ true
      → list_all (λ q. holds eq q (view x ∷ map view ks)) (map view next) ≡ true
  all_held-view x ks [] h = refl
  all_held-view x ks (q ∷ next) h =
      and_both _ _ (holds-map eq view q (x ∷ ks) ∙ and_left _ _ h) (all_held-view x ks next (and_right _ _ h))

  schedule-view : (h : ℕ) (held : List (List X)) (rs : List X) → IsSchedule (same eq view) h held rs
      → IsSchedule eq h (map (map view) held) (map view rs)
  schedule-view h [] rs s = s
  schedule-view h (ks ∷ later) [] s = (subst (λ n. n ≤ h) (sym (length-map ks view)) s.0, ap (map (map view)) s.1)
  schedule-view h (ks ∷ []) (x ∷ rs) s = absurd s.1
  schedule-view h (ks ∷ next ∷ later) (x ∷ rs) s = (
    subst (λ n. n ≤ h) (sym (length-map ks view)) s.0,
    (all_held-view x ks next s.1.0, holds-map eq view x next ∙ s.1.1),
    schedule-view h (next ∷ later) rs s.2,
  )

  marks-view : (held : List (List X)) (rs : List X)
      → schedule_marks eq (map (map view) held) (map view rs) ≡ schedule_marks (same eq view) held rs
  marks-view [] rs = refl
  marks-view (ks ∷ later) [] = refl
  marks-view (ks ∷ later) (x ∷ rs) =
      ap (λ b. b ∷ schedule_marks eq (map (map view) later) (map view rs)) (holds-map eq view x ks)
      ∙ ap (λ bs. holds (same eq view) x ks ∷ bs) (marks-view later rs)

  -- back: the first of the keys that shows y, or d
  abbrev pick : X → List X → Y → X
  pick d [] y = d
  pick d (x ∷ xs) y = cond (eq y (view x)) x (pick d xs y)

  picked : (d : X) (xs : List X) (x : X) → holds (same eq view) x xs ≡ true → view (pick d xs (view x)) ≡ view x
  picked d [] x h = cc
  picked d (k ∷ xs) x h =
      split (eq (view x) (view k))
      (λ e. ap (λ b. view (cond b k (pick d xs (view x)))) e ∙ sym ((decides (view x) (view k)).0 e))
      (λ e. ap (λ b. view (cond b k (pick d xs (view x)))) e
      ∙ picked d xs x (subst (λ b. (b || holds (same eq view) x xs) ≡ true) e h))

  module _ (back : Y → X) where
    -- each of the requests is shown by what its view leads back to
    abbrev IsFound : List X → Type 0
    IsFound [] = Unit
    IsFound (x ∷ rs) = (view (back (view x)) ≡ view x) × IsFound rs

    same_back : (p q : Y) → eq p q ≡ true → eq (view (back p)) (view (back q)) ≡ true
    same_back p q e = (decides _ _).1 (ap (λ y. view (back y)) ((decides p q).0 e))

    holds-back : (q : Y) (ks : List Y) → holds eq q ks ≡ true → holds (same eq view) (back q) (map back ks) ≡ true
    holds-back q [] h = cc
    holds-back q (k ∷ ks) h =
        split (eq q k) (λ e. or_left _ _ (same_back q k e))
        (λ e. or_right _ _ (holds-back q ks (subst (λ b. (b || holds eq q ks) ≡ true) e h)))

    holds-found : (x : X) (ks : List Y) → view (back (view x)) ≡ view x → holds eq (view x) ks ≡ true
        → holds (same eq view) x (map back ks) ≡ true
    holds-found x ks found h =
        subst (λ v. list_any (λ z. eq v (view z)) (map back ks) ≡ true) found (holds-back (view x) ks h)

    all_held-back : (x : X) (ks next : List Y) → view (back (view x)) ≡ view x
        → list_all (λ q. holds eq q (view x ∷ ks)) next ≡ true
        → list_all (λ q. holds (same eq view) q (x ∷ map back ks)) (map back next) ≡ true
    all_held-back x ks [] found h = refl
    all_held-back x ks (q ∷ next) found h =
        and_both _ _
        (split (eq q (view x))
        (λ e. or_left _ _ ((decides _ _).1 (ap (λ y. view (back y)) ((decides q (view x)).0 e) ∙ found)))
        (λ e. or_right _ _ (holds-back q ks (subst (λ b. (b || holds eq q ks) ≡ true) e (and_left _ _ h)))))
        (all_held-back x ks next found (and_right _ _ h))

    schedule-back : (h : ℕ) (held : List (List Y)) (rs : List X) → IsFound rs → IsSchedule eq h held (map view rs)
        → IsSchedule (same eq view) h (map (map back) held) rs
    schedule-back h [] rs found s = s
    schedule-back h (ks ∷ later) [] found s = (subst (λ n. n ≤ h) (sym (length-map ks back)) s.0, ap (map (map back)) s.1)
    schedule-back h (ks ∷ []) (x ∷ rs) found s = absurd s.1
    schedule-back h (ks ∷ next ∷ later) (x ∷ rs) found s = (
      subst (λ n. n ≤ h) (sym (length-map ks back)) s.0,
      (all_held-back x ks next found.0 s.1.0, holds-found x next found.0 s.1.1),
      schedule-back h (next ∷ later) rs found.1 s.2,
    )

    misses-back : (held : List (List Y)) (rs : List X) → IsFound rs
        → schedule_misses (same eq view) (map (map back) held) rs ≤ schedule_misses eq held (map view rs)
    misses-back [] rs found = omega arith
    misses-back (ks ∷ later) [] found = omega arith
    misses-back (ks ∷ later) (x ∷ rs) found =
        let missed : Bool → ℕ = λ b. cond (not b) 1 0 in
        let after = sum_by-cons missed (holds (same eq view) x (map back ks)) (schedule_marks (same eq view) (map (map back) later) rs) in
        let before = sum_by-cons missed (holds eq (view x) ks) (schedule_marks eq later (map view rs)) in
        let first = missed_less (holds (same eq view) x (map back ks)) (holds eq (view x) ks) (holds-found x ks found.0) in
        omega (arith, after, before, first, misses-back later rs found.1)

  found_in : (d : X) (keys rs : List X) → ((x : X) → holds (same eq view) x rs ≡ true → holds (same eq view) x keys ≡ true)
      → IsFound (pick d keys) rs
  found_in d keys [] within = tt
  found_in d keys (x ∷ rs) within = (
    picked d keys x (within x (or_left _ _ ((decides (view x) (view x)).1 refl))),
    found_in d keys rs (λ z h. within z (or_right _ _ h)),
  )

  attained-view : (h : ℕ) (keys : List X) (n : ℕ) → IsAttained (same eq view) h keys n → IsAttained eq h (map view keys) n
  attained-view h keys n a = record {
    schedule = map (map view) a.schedule;
    serves = schedule-view h ([] ∷ a.schedule) keys a.serves;
    misses = ap (count_by not) (marks-view ([] ∷ a.schedule) keys) ∙ a.misses;
  }

  pub least-view : (h : ℕ) (keys : List X) (n : ℕ) → IsLeast (same eq view) h keys n → IsLeast eq h (map view keys) n
  least-view h [] n l = record {
    attained = attained-view h [] n l.attained;
    none_fewer = λ schedule serves. l.none_fewer [] (omega arith, refl);
  }
  least-view h (x ∷ rs) n l =
      let keys = x ∷ rs in
      let back = pick x keys in
      let found = found_in x keys keys (λ z h. h) in
      record {
        attained = attained-view h keys n l.attained;
        none_fewer = λ schedule serves. omega (
          arith,
          l.none_fewer (map (map back) schedule) (schedule-back back h ([] ∷ schedule) keys found serves),
          misses-back back ([] ∷ schedule) keys found,
        );
      }
