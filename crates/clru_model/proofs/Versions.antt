-- The recipe for an age limit, where keys have versions, misses no less.
use Rattle.std.proofs.Common.{◌≡◌, ℕ, ◌+◌, ◌≤◌, Bool, true, false, not, ◌⊎◌, inl, inr, Option, Some, None, List, [], ◌∷◌, length}
use Rattle.std.proofs.Common.{ltb, ltb-true, lt-ltb, refl, ap, ◌∙◌, arith}
use Rattle.std.proofs.lemmas.Bool.{and_parts, and_from, eqb-true, or_left, or_right}
use Rattle.std.proofs.lemmas.Option.{same_Some}
use Rattle.std.specs.Prelude.{nat_eq}
use Rattle.std.specs.Cmp.{IsEquivalence}
use Rattle.std.specs.List.{count_by}
use Rattle.std.specs.Map.{keys_of, lookup}
use Rattle.clru_model.specs.Ages.{NeverFall, is_recent, aged_hit, aged_marks_after, versioned_after, is_same_version, VersionsMissMore}
use Rattle.clru_model.specs.Requests.{holds, distinct, since, hit, marks_after}
use Rattle.clru_model.proofs.Ages.{times_of, times_of-cons, times_of-same, times_of-other, misses-hit, misses-miss, aged_hit_from, aged_hit_parts}
use Rattle.clru_model.proofs.Ages.{IsAhead, Moves, both_miss, first_misses, second_misses, ahead_is_shorter}
use Rattle.clru_model.proofs.Cases.{split}
use Rattle.clru_model.proofs.Distinct.{since-cons, distinct_mono}
use Rattle.clru_model.proofs.IdleMarks.{recent_unlimited}
use Rattle.clru_model.proofs.Marks.{count_by-not-cons}

-- where requests that are the same by a finer test are of the same key
module _ {K V : Type 0} (eq : K → K → Bool) (laws : IsEquivalence eq) (finer : K × V → K × V → Bool)
    (coarser : (p q : K × V) → finer p q ≡ true → eq p.0 q.0 ≡ true) where
  holds_coarser : (p : K × V) (past : List (K × V)) → holds finer p past ≡ true → holds eq p.0 (keys_of past) ≡ true
  holds_coarser p [] h = cc
  holds_coarser p (q ∷ past) h = split (finer p q)
      (λ t. rw (coarser p q t) refl)
      (λ f. or_right (eq p.0 q.0) (holds eq p.0 (keys_of past)) (holds_coarser p past (rw f at h)))

  since_coarser : (p : K × V) (past : List (K × V)) (z : K) → holds eq z (since eq p.0 (keys_of past)) ≡ true
      → holds eq z (keys_of (since finer p past)) ≡ true
  since_coarser p [] z h = cc
  since_coarser p (q ∷ past) z h =
      let there = rw (since-cons eq p.0 q.0 (keys_of past)) at h in
      rw (since-cons finer p q past) (split (finer p q)
      (λ t. cc (rw (coarser p q t) at there))
      (λ f. split (eq p.0 q.0)
      (λ u. cc (rw u at there))
      (λ n. rw f (split (eq z q.0)
      (λ v. or_left (eq z q.0) (holds eq z (keys_of (since finer p past))) v)
      (λ m. or_right (eq z q.0) (holds eq z (keys_of (since finer p past))) (since_coarser p past z (rw (n, m) at there)))))))

  distinct_coarser : (past : List (K × V)) → distinct eq (keys_of past) ≤ distinct finer past
  distinct_coarser [] = omega arith
  distinct_coarser (q ∷ past) =
      let rest = distinct_coarser past in
      split (holds finer q past)
      (λ t. let held = holds_coarser q past t in rw (t, held) rest)
      (λ f. split (holds eq q.0 (keys_of past)) (λ u. rw (f, u) (omega (arith, rest))) (λ n. rw (f, n) (omega (arith, rest))))

  -- what hits by the finer test hits by the key
  pub hit_coarser : (k : ℕ) (p : K × V) (past : List (K × V)) → hit finer k p past ≡ true → hit eq k p.0 (keys_of past) ≡ true
  hit_coarser k p past h =
      let n : ℕ = distinct finer (since finer p past) in
      let m : ℕ = distinct eq (since eq p.0 (keys_of past)) in
      let parts = and_parts (holds finer p past) (ltb n k) h in
      let fewer = distinct_mono eq laws (since eq p.0 (keys_of past)) (keys_of (since finer p past)) (since_coarser p past) in
      and_from (holds eq p.0 (keys_of past)) (ltb m k) (holds_coarser p past parts.0)
      (lt-ltb m k (omega (arith, ltb-true n k parts.1, fewer, distinct_coarser (since finer p past))))

module _ {K : Type 0} (eq : K → K → Bool) (laws : IsEquivalence eq) (k : ℕ) (age : Option ℕ) where
  times_of_same : (x y : K) (ks : List K) → eq x y ≡ true → times_of eq x ks ≡ times_of eq y ks
  times_of_same x y [] same = refl
  times_of_same x y (z ∷ ks) same =
      times_of-cons eq x z ks ∙ rw (laws.congr x y z same) (omega (arith, times_of-cons eq y z ks, times_of_same x y ks same))

  -- how the recipe stands: its past has the same keys, with versions up to the number of its fetches, of which none is later
  record IsRecipe (start : ℕ) (past fetches versions : List (K × ℕ)) : Type 0 where
    keys : keys_of versions ≡ keys_of past
    low : (x : K) (n : ℕ) → holds (is_same_version eq) (x, n) versions ≡ true → n ≤ times_of eq x (keys_of fetches)
    before : (x : K) (time : ℕ) → lookup (eq x) fetches ≡ Some time → time ≤ start

  -- a fetch more or none
  abbrev Grows : K × ℕ → (fetches next : List (K × ℕ)) → Type 0
  Grows r fetches next = (next ≡ fetches) ⊎ (next ≡ r ∷ fetches)

  times_grow : (r : K × ℕ) (fetches next : List (K × ℕ)) → Grows r fetches next → (x : K)
      → times_of eq x (keys_of fetches) ≤ times_of eq x (keys_of next)
  times_grow r fetches next grows x = elim grows [
    | inl stays ↦ rw stays (omega arith)
    | inr one ↦ rw one (split (eq x r.0)
        (λ t. omega (arith, times_of-same eq x r.0 (keys_of fetches) t))
        (λ f. omega (arith, times_of-other eq x r.0 (keys_of fetches) f)))
  ]

  -- after a request with its version
  recipe_next : (start : ℕ) (past fetches versions : List (K × ℕ)) (r : K × ℕ) (next : List (K × ℕ))
      → IsRecipe start past fetches versions → start ≤ r.1 → Grows r fetches next
      → IsRecipe r.1 (r ∷ past) next ((r.0, times_of eq r.0 (keys_of next)) ∷ versions)
  recipe_next start past fetches versions r next recipe later grows = record {
    keys = ap (λ ks. r.0 ∷ ks) recipe.keys;
    low = λ x n held. split (is_same_version eq (x, n) (r.0, times_of eq r.0 (keys_of next)))
        (λ t. let parts = and_parts (eq x r.0) (nat_eq n (times_of eq r.0 (keys_of next))) t in
        omega (arith, eqb-true n (times_of eq r.0 (keys_of next)) parts.1, times_of_same x r.0 (keys_of next) parts.0))
        (λ f. omega (arith, recipe.low x n (rw f at held), times_grow r fetches next grows x));
    before = λ x time found. elim grows [
      | inl stays ↦ omega (arith, later, recipe.before x time (rw stays at found))
      | inr one ↦ split (eq x r.0)
          (λ t. let now : Some r.1 ≡ Some time = rw (one, t) at found in omega (arith, same_Some r.1 time now))
          (λ f. let past : lookup (eq x) fetches ≡ Some time = rw (one, f) at found in omega (arith, later, recipe.before x time past))
    ];
  }

  -- a key with a version that is new misses
  new_version : (start : ℕ) (past fetches versions : List (K × ℕ)) (r : K × ℕ) → IsRecipe start past fetches versions
      → hit (is_same_version eq) k (r.0, times_of eq r.0 (keys_of (r ∷ fetches))) versions ≡ true → ⊥
  new_version start past fetches versions r recipe h =
      let n : ℕ = times_of eq r.0 (keys_of (r ∷ fetches)) in
      let parts = and_parts (holds (is_same_version eq) (r.0, n) versions) _ h in
      absurd (omega (arith, recipe.low r.0 n parts.0, times_of-same eq r.0 r.0 (keys_of fetches) (laws.refl r.0)))

  -- what of the two counts is compared, after requests of the past
  abbrev Compares : (past used versions less more rs : List (K × ℕ)) → Type 0
  Compares past used versions less more rs =
      length more + count_by not (aged_marks_after eq (hit eq k) None age past more rs)
      ≤ length less + count_by not (marks_after (is_same_version eq) k versions (versioned_after eq age used rs))

  -- one request, of the version n, that leaves the recipe with these fetches, before which and after which they are compared
  one_request : (past used versions less more : List (K × ℕ)) (r : K × ℕ) (rs next : List (K × ℕ)) (n : ℕ)
      → ((x : K) → IsAhead eq laws age less used more x) → Moves eq laws r used next
      → (hit (is_same_version eq) k (r.0, n) versions ≡ true
      → (next ≡ used) × (is_recent eq age r used ≡ true) × (hit eq k r.0 (keys_of past) ≡ true))
      → ((less' more' : List (K × ℕ)) → ((x : K) → IsAhead eq laws age less' next more' x)
      → Compares (r ∷ past) next ((r.0, n) ∷ versions) less' more' rs)
      → length more + count_by not (aged_marks_after eq (hit eq k) None age past more (r ∷ rs))
      ≤ length less + count_by not (hit (is_same_version eq) k (r.0, n) versions
      ∷ marks_after (is_same_version eq) k ((r.0, n) ∷ versions) (versioned_after eq age next rs))
  one_request past used versions less more r rs next n ahead moves tells rest =
      let ms = marks_after (is_same_version eq) k ((r.0, n) ∷ versions) (versioned_after eq age next rs) in
      split (hit (is_same_version eq) k (r.0, n) versions)
      (λ t. let (stays, recent, hits) = tells t in
      let after = λ (more' : List (K × ℕ)) (ahead' : (x : K) → IsAhead eq laws age less used more' x).
      rest less more' (λ x. rw stays (ahead' x)) in
      rw (t, count_by-not-cons true ms) (split (aged_hit eq (hit eq k) None age r past more)
      (λ u. omega (arith, after more ahead, misses-hit eq (hit eq k) None age r past more rs u))
      (λ f. let came : is_recent eq None r past ≡ true = recent_unlimited eq r past ∙ (and_parts (holds eq r.0 (keys_of past)) _ hits).0 in
      let old : is_recent eq age r more ≡ false = split (is_recent eq age r more)
      (λ young. cc (aged_hit_from eq (hit eq k) None age r past more hits came young, f)) (λ v. v) in
      omega (
        arith,
        after (r ∷ more) (λ x. second_misses eq laws age r x less used more (ahead x) recent old),
        misses-miss eq (hit eq k) None age r past more rs f,
      ))))
      (λ m. rw (m, count_by-not-cons false ms) (split (aged_hit eq (hit eq k) None age r past more)
      (λ u. let (hits, soon, young) = aged_hit_parts eq (hit eq k) None age r past more u in
      omega (
        arith,
        rest (r ∷ less) more (λ x. first_misses eq laws age r x less used more (ahead x) next moves young),
        misses-hit eq (hit eq k) None age r past more rs u,
      ))
      (λ f. omega (
        arith,
        rest (r ∷ less) (r ∷ more) (λ x. both_miss eq laws age r x less used more (ahead x) next moves),
        misses-miss eq (hit eq k) None age r past more rs f,
      ))))

  versions_after : (start : ℕ) (past used versions less more rs : List (K × ℕ)) → NeverFall start rs
      → IsRecipe start past used versions → ((x : K) → IsAhead eq laws age less used more x)
      → Compares past used versions less more rs
  versions_after start past used versions less more [] rises recipe ahead =
      omega (arith, ahead_is_shorter eq laws age less used more ahead)
  versions_after start past used versions less more (r ∷ rs) rises recipe ahead = split (is_recent eq age r used)
      (λ t. rw t (one_request past used versions less more r rs used (times_of eq r.0 (keys_of used)) ahead
      (inr (refl, λ time found. omega (arith, recipe.before r.0 time found, rises.0)))
      (λ h. (
        refl,
        t,
        rw recipe.keys at (hit_coarser eq laws (is_same_version eq)
            (λ p q same. (and_parts (eq p.0 q.0) (nat_eq p.1 q.1) same).0) k (r.0, times_of eq r.0 (keys_of used)) versions h),
      ))
      (λ less' more' ahead'. versions_after r.1 (r ∷ past) used ((r.0, times_of eq r.0 (keys_of used)) ∷ versions) less' more' rs rises.1
      (recipe_next start past used versions r used recipe rises.0 (inl refl)) ahead')))
      (λ f. rw f (one_request past used versions less more r rs (r ∷ used) (times_of eq r.0 (keys_of (r ∷ used))) ahead (inl refl)
      (λ h. absurd (new_version start past used versions r recipe h))
      (λ less' more' ahead'. versions_after r.1 (r ∷ past) (r ∷ used) ((r.0, times_of eq r.0 (keys_of (r ∷ used))) ∷ versions) less' more' rs rises.1
      (recipe_next start past used versions r (r ∷ used) recipe rises.0 (inr refl)) ahead')))

module _ {K : Type 0} (eq : K → K → Bool) (laws : IsEquivalence eq) where
  pub versions_miss_more : VersionsMissMore eq
  versions_miss_more k age rs rises = omega (
    arith,
    versions_after eq laws k age 0 [] [] [] [] [] rs rises
        (record { keys = refl; low = λ x n held. cc; before = λ x time found. cc })
        (λ x. record { fewer = omega arith; near = λ time found. cc }),
  )
