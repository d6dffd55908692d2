-- Requests with times: greater limits and a greater capacity miss no more.
use Rattle.std.proofs.Common.{◌≡◌, ℕ, suc, ◌+◌, ◌-◌, ◌<◌, ◌≤◌, Bool, true, false, cond, not, ◌&&◌, ◌⊎◌, inl, inr, Option, Some, None, List, [], ◌∷◌, length}
use Rattle.std.proofs.Common.{leb, leb-true, refl, sym, ap, ◌∙◌, arith}
use Rattle.std.proofs.lemmas.Bool.{and_parts, le-leb, leb-false}
use Rattle.std.proofs.lemmas.List.Sums.{sum_by-cons}
use Rattle.std.proofs.lemmas.Map.Entries.{length-keys_of}
use Rattle.std.proofs.lemmas.Option.{same_Some}
use Rattle.std.specs.Cmp.{IsEquivalence}
use Rattle.std.specs.List.{count_by}
use Rattle.std.specs.Map.{keys_of, lookup}
use Rattle.clru_model.specs.Ages.{is_in_limit, IsLimitBelow, is_recent, aged_hit, aged_marks_after, aged_misses, AgedMissesFall, AgedMissesBySizeFall}
use Rattle.clru_model.specs.Requests.{hit}
use Rattle.clru_model.specs.Sizes.{hit_by_size}
use Rattle.clru_model.proofs.Cases.{split}
use Rattle.clru_model.proofs.Distinct.{same_right}
use Rattle.clru_model.proofs.Growing.{hit_grows}
use Rattle.clru_model.proofs.Lookups.{lookup-same}
use Rattle.clru_model.proofs.Marks.{count_by-not-cons}
use Rattle.clru_model.proofs.Spans.{hit_by_size_grows}

-- no time is within each limit
pub in_limit-zero : (limit : Option ℕ) → is_in_limit limit 0 ≡ true
in_limit-zero None = refl
in_limit-zero (Some most) = le-leb 0 most (omega arith)

-- what is within a limit is less than what is not
pub in_limit-apart : (limit : Option ℕ) (a b : ℕ) → is_in_limit limit a ≡ true → is_in_limit limit b ≡ false → a < b
in_limit-apart None a b within past = cc
in_limit-apart (Some most) a b within past = omega (arith, leb-true a most within, leb-false b most past)

-- a greater number is a greater limit, and none is the greatest
pub limit_below : (m n : ℕ) → m ≤ n → IsLimitBelow (Some m) (Some n)
limit_below m n more span within = le-leb span n (omega (arith, more, leb-true span m within))

pub limit_below_none : (limit : Option ℕ) → IsLimitBelow limit None
limit_below_none limit span within = refl

module _ {K : Type 0} (eq : K → K → Bool) where
  -- how many of the keys are the same as x
  abbrev pub times_of : K → List K → ℕ
  times_of x ks = count_by (eq x) ks

  pub times_of-cons : (x y : K) (ks : List K) → times_of x (y ∷ ks) ≡ cond (eq x y) 1 0 + times_of x ks
  times_of-cons x y ks = sum_by-cons (λ k. cond (eq x k) 1 0) y ks

  pub times_of-same : (x y : K) (ks : List K) → eq x y ≡ true → times_of x (y ∷ ks) ≡ suc (times_of x ks)
  times_of-same x y ks t = times_of-cons x y ks ∙ rw t (omega arith)

  pub times_of-other : (x y : K) (ks : List K) → eq x y ≡ false → times_of x (y ∷ ks) ≡ times_of x ks
  times_of-other x y ks f = times_of-cons x y ks ∙ rw f (omega arith)

  -- a request that comes soon enough has one before it
  pub recent_at : (limit : Option ℕ) (r : K × ℕ) (rs : List (K × ℕ)) → is_recent eq limit r rs ≡ true
      → (time : ℕ) × (lookup (eq r.0) rs ≡ Some time) × (is_in_limit limit (r.1 - time) ≡ true)
  recent_at limit r [] h = cc
  recent_at limit r (q ∷ rs) h = split (eq r.0 q.0)
      (λ t. (q.1, rw t refl, rw t at h))
      (λ f. let (time, found, within) = recent_at limit r rs (rw f at h) in (time, rw f found, within))

  -- what comes soon enough does under a greater limit
  pub recent_grows : (less more : Option ℕ) → IsLimitBelow less more → (r : K × ℕ) (rs : List (K × ℕ))
      → is_recent eq less r rs ≡ true → is_recent eq more r rs ≡ true
  recent_grows less more below r rs recent =
      let (time, found, within) = recent_at less r rs recent in rw found (below (r.1 - time) within)

  module _ (hits : K → List K → Bool) (idle age : Option ℕ) (r : K × ℕ) (past fetches : List (K × ℕ)) where
    -- what a hit is
    pub aged_hit_parts : aged_hit eq hits idle age r past fetches ≡ true
        → (hits r.0 (keys_of past) ≡ true) × (is_recent eq idle r past ≡ true) × (is_recent eq age r fetches ≡ true)
    aged_hit_parts h =
        let parts = and_parts (hits r.0 (keys_of past) && is_recent eq idle r past) (is_recent eq age r fetches) h in
        let first = and_parts (hits r.0 (keys_of past)) (is_recent eq idle r past) parts.0 in
        (first.0, first.1, parts.1)

    pub aged_hit_from : hits r.0 (keys_of past) ≡ true → is_recent eq idle r past ≡ true → is_recent eq age r fetches ≡ true
        → aged_hit eq hits idle age r past fetches ≡ true
    aged_hit_from hit soon young = rw (hit, soon, young) refl

    -- the misses with one more request in front
    module _ (rs : List (K × ℕ)) where
      pub misses-hit : aged_hit eq hits idle age r past fetches ≡ true → count_by not (aged_marks_after eq hits idle age past fetches (r ∷ rs))
          ≡ count_by not (aged_marks_after eq hits idle age (r ∷ past) fetches rs)
      misses-hit t = rw (t, count_by-not-cons true (aged_marks_after eq hits idle age (r ∷ past) fetches rs)) (omega arith)

      pub misses-miss : aged_hit eq hits idle age r past fetches ≡ false → count_by not (aged_marks_after eq hits idle age past fetches (r ∷ rs))
          ≡ suc (count_by not (aged_marks_after eq hits idle age (r ∷ past) (r ∷ fetches) rs))
      misses-miss f = rw (f, count_by-not-cons false (aged_marks_after eq hits idle age (r ∷ past) (r ∷ fetches) rs)) (omega arith)

module _ {K : Type 0} (eq : K → K → Bool) (laws : IsEquivalence eq) where
  -- a list of keys less one that is the same as x
  less_one : (x : K) (ks : List K) → 1 ≤ times_of eq x ks
      → (rest : List K) × (suc (length rest) ≡ length ks) × ((z : K) → times_of eq z ks ≡ cond (eq z x) 1 0 + times_of eq z rest)
  less_one x [] there = absurd (omega (arith, there))
  less_one x (k ∷ ks) there = split (eq x k)
      (λ t. (ks, refl, λ z. times_of-cons eq z k ks ∙ ap (λ b. cond b 1 0 + times_of eq z ks) (sym (same_right eq laws x k z t))))
      (λ f. let here : 1 ≤ times_of eq x ks = omega (arith, times_of-other eq x k ks f, there) in
      let (rest, shorter, counts) = less_one x ks here in
      (k ∷ rest, ap suc shorter, λ z. omega (arith, times_of-cons eq z k ks, times_of-cons eq z k rest, counts z)))

  -- a list that has each key no more often is no longer
  pub length_from_times : (ks ls : List K) → ((x : K) → times_of eq x ks ≤ times_of eq x ls) → length ks ≤ length ls
  length_from_times [] ls fewer = omega arith
  length_from_times (k ∷ ks) ls fewer =
      let here : 1 ≤ times_of eq k ls = omega (arith, times_of-same eq k k ks (laws.refl k), fewer k) in
      let (rest, shorter, counts) = less_one k ls here in
      let ih = length_from_times ks rest (λ z. omega (arith, times_of-cons eq z k ks, counts z, fewer z)) in
      omega (arith, ih, shorter)

  -- how two caches stand at a key x: the requests that they missed, the latest first, and the requests by which the first one
  -- takes the age of x. The second one has fetched x no more often, and if as often, then no earlier than that request; and
  -- that request came within the second one's limit after its fetch, or earlier
  pub record IsAhead (limit : Option ℕ) (less used more : List (K × ℕ)) (x : K) : Type 0 where
    pub fewer : times_of eq x (keys_of more) ≤ times_of eq x (keys_of less)
    pub near : (time : ℕ) → lookup (eq x) used ≡ Some time → (fetched : ℕ) × (lookup (eq x) more ≡ Some fetched)
        × (times_of eq x (keys_of more) ≡ times_of eq x (keys_of less) → time ≤ fetched) × (is_in_limit limit (time - fetched) ≡ true)

  -- at a request r the age starts again, or stays where its time is no later
  abbrev pub Moves : K × ℕ → (used next : List (K × ℕ)) → Type 0
  Moves r used next = (next ≡ r ∷ used) ⊎ ((next ≡ used) × ((time : ℕ) → lookup (eq r.0) used ≡ Some time → time ≤ r.1))

  moved_apart : (r : K × ℕ) (used next : List (K × ℕ)) (x : K) → Moves r used next → eq x r.0 ≡ false → lookup (eq x) next ≡ lookup (eq x) used
  moved_apart r used next x moves apart = elim moves [
    | inl again ↦ rw (again, apart) refl
    | inr stays ↦ rw stays.0 refl
  ]

  moved_time : (r : K × ℕ) (used next : List (K × ℕ)) (x : K) → Moves r used next → eq x r.0 ≡ true
      → (time : ℕ) → lookup (eq x) next ≡ Some time → time ≤ r.1
  moved_time r used next x moves same time found = elim moves [
    | inl again ↦ let now : Some r.1 ≡ Some time = rw (again, same) at found in omega (arith, same_Some r.1 time now)
    | inr stays ↦ stays.1 time (lookup-same laws x r.0 same used ∙ rw stays.0 at found)
  ]

  module _ (limit : Option ℕ) (r : K × ℕ) (x : K) (less used more : List (K × ℕ)) (ahead : IsAhead limit less used more x) where
    -- a time that is no later is within the limit
    no_later : (time : ℕ) → time ≤ r.1 → is_in_limit limit (time - r.1) ≡ true
    no_later time before = let none : time - r.1 ≡ 0 = omega arith in rw none (in_limit-zero limit)

    -- at a key whose requests stay nothing changes
    stays : (less' used' more' : List (K × ℕ)) → times_of eq x (keys_of less') ≡ times_of eq x (keys_of less)
        → lookup (eq x) used' ≡ lookup (eq x) used → times_of eq x (keys_of more') ≡ times_of eq x (keys_of more)
        → lookup (eq x) more' ≡ lookup (eq x) more → IsAhead limit less' used' more' x
    stays less' used' more' l u m f = record {
      fewer = omega (arith, ahead.fewer, l, m);
      near = λ time found. let (fetched, at_fetched, first, within) = ahead.near time (sym u ∙ found) in
          (fetched, f ∙ at_fetched, λ as_often. first (sym m ∙ as_often ∙ l), within);
    }

    pub both_miss : (used' : List (K × ℕ)) → Moves r used used' → IsAhead limit (r ∷ less) used' (r ∷ more) x
    both_miss used' moves = split (eq x r.0)
        (λ t. record {
          fewer = omega (arith, ahead.fewer, times_of-same eq x r.0 (keys_of less) t, times_of-same eq x r.0 (keys_of more) t);
          near = λ time found. let before = moved_time r used used' x moves t time found in
              (r.1, rw t refl, λ _. before, no_later time before);
        })
        (λ f. stays (r ∷ less) used' (r ∷ more) (times_of-other eq x r.0 (keys_of less) f) (moved_apart r used used' x moves f)
        (times_of-other eq x r.0 (keys_of more) f) (rw f refl))

    pub first_misses : (used' : List (K × ℕ)) → Moves r used used' → is_recent eq limit r more ≡ true → IsAhead limit (r ∷ less) used' more x
    first_misses used' moves recent = split (eq x r.0)
        (λ t. let one = times_of-same eq x r.0 (keys_of less) t in record {
          fewer = omega (arith, ahead.fewer, one);
          near = λ time found. elim moves [
            | inl again ↦ let now : Some r.1 ≡ Some time = rw (again, t) at found in
                let (fetched, at_fetched, within) = recent_at eq limit r more recent in (
                  fetched,
                  sym (lookup-same laws x r.0 t more) ∙ at_fetched,
                  λ as_often. absurd (omega (arith, as_often, ahead.fewer, one)),
                  rw (sym (same_Some r.1 time now)) within,
                )
            | inr stay ↦ let (fetched, at_fetched, first, within) = ahead.near time (rw stay.0 at found) in
                (fetched, at_fetched, λ as_often. absurd (omega (arith, as_often, ahead.fewer, one)), within)
          ];
        })
        (λ f. stays (r ∷ less) used' more (times_of-other eq x r.0 (keys_of less) f) (moved_apart r used used' x moves f) refl refl)

    pub second_misses : is_recent eq limit r used ≡ true → is_recent eq limit r more ≡ false → IsAhead limit less used (r ∷ more) x
    second_misses recent old = split (eq x r.0)
        (λ t. let (u, at_u, within_u) = recent_at eq limit r used recent in
        let at_x : lookup (eq x) used ≡ Some u = sym (lookup-same laws x r.0 t used) ∙ at_u in
        let (fetched, at_fetched, first, within) = ahead.near u at_x in
        let there : lookup (eq r.0) more ≡ Some fetched = lookup-same laws x r.0 t more ∙ at_fetched in
        let past : is_in_limit limit (r.1 - fetched) ≡ false = rw there at old in
        let older = in_limit-apart limit (r.1 - u) (r.1 - fetched) within_u past in
        let later = in_limit-apart limit (u - fetched) (r.1 - fetched) within past in
        let one = times_of-same eq x r.0 (keys_of more) t in
        let behind : times_of eq x (keys_of more) < times_of eq x (keys_of less) =
        split (leb (suc (times_of eq x (keys_of more))) (times_of eq x (keys_of less)))
        (λ b. leb-true (suc (times_of eq x (keys_of more))) (times_of eq x (keys_of less)) b)
        (λ b. let as_often : times_of eq x (keys_of more) ≡ times_of eq x (keys_of less) =
        omega (arith, ahead.fewer, leb-false (suc (times_of eq x (keys_of more))) (times_of eq x (keys_of less)) b) in
        absurd (omega (arith, first as_often, older))) in record {
          fewer = omega (arith, one, behind);
          near = λ time found. let same = same_Some time u (sym found ∙ at_x) in
              let before : time ≤ r.1 = omega (arith, same, later) in
              (r.1, rw t refl, λ _. before, no_later time before);
        })
        (λ f. stays less used (r ∷ more) refl refl (times_of-other eq x r.0 (keys_of more) f) (rw f refl))

  -- at the end, who is ahead at each key has missed no more
  pub ahead_is_shorter : (limit : Option ℕ) (less used more : List (K × ℕ)) → ((x : K) → IsAhead limit less used more x)
      → length more ≤ length less
  ahead_is_shorter limit less used more ahead =
      let keys = length_from_times (keys_of more) (keys_of less) (λ x. (ahead x).fewer) in
      omega (arith, keys, length-keys_of more, length-keys_of less)

  module _ (hits hits_more : K → List K → Bool) (idle idle_more age age_more : Option ℕ)
      (grows : (x : K) (past : List K) → hits x past ≡ true → hits_more x past ≡ true)
      (idle_below : IsLimitBelow idle idle_more) (age_below : IsLimitBelow age age_more) where
    -- what hits by idle time and without the limits still does
    second_is_old : (past less more : List (K × ℕ)) (r : K × ℕ) → aged_hit eq hits idle age r past less ≡ true
        → aged_hit eq hits_more idle_more age_more r past more ≡ false → is_recent eq age_more r more ≡ false
    second_is_old past less more r t n =
        let (hit, idle_hit, age_hit) = aged_hit_parts eq hits idle age r past less t in
        split (is_recent eq age_more r more)
        (λ u. cc (
          aged_hit_from eq hits_more idle_more age_more r past more (grows r.0 (keys_of past) hit)
              (recent_grows eq idle idle_more idle_below r past idle_hit) u,
          n,
        ))
        (λ v. v)

    falls_after : (past less more rs : List (K × ℕ)) → ((x : K) → IsAhead age_more less less more x)
        → length more + count_by not (aged_marks_after eq hits_more idle_more age_more past more rs)
        ≤ length less + count_by not (aged_marks_after eq hits idle age past less rs)
    falls_after past less more [] ahead = omega (arith, ahead_is_shorter age_more less less more ahead)
    falls_after past less more (r ∷ rs) ahead = split (aged_hit eq hits idle age r past less)
        (λ t. let first = misses-hit eq hits idle age r past less rs t in
        split (aged_hit eq hits_more idle_more age_more r past more)
        (λ u. omega (arith, falls_after (r ∷ past) less more rs ahead, first, misses-hit eq hits_more idle_more age_more r past more rs u))
        (λ n. let (hit, soon, young) = aged_hit_parts eq hits idle age r past less t in
        let recent = recent_grows eq age age_more age_below r less young in
        let old = second_is_old past less more r t n in
        omega (
          arith,
          falls_after (r ∷ past) less (r ∷ more) rs (λ x. second_misses age_more r x less less more (ahead x) recent old),
          first,
          misses-miss eq hits_more idle_more age_more r past more rs n,
        )))
        (λ f. let first = misses-miss eq hits idle age r past less rs f in
        split (aged_hit eq hits_more idle_more age_more r past more)
        (λ u. let (hit, soon, recent) = aged_hit_parts eq hits_more idle_more age_more r past more u in
        omega (
          arith,
          falls_after (r ∷ past) (r ∷ less) more rs (λ x. first_misses age_more r x less less more (ahead x) (r ∷ less) (inl refl) recent),
          first,
          misses-hit eq hits_more idle_more age_more r past more rs u,
        ))
        (λ n. omega (
          arith,
          falls_after (r ∷ past) (r ∷ less) (r ∷ more) rs
              (λ x. both_miss age_more r x less less more (ahead x) (r ∷ less) (inl refl)),
          first,
          misses-miss eq hits_more idle_more age_more r past more rs n,
        )))

    -- greater limits, and hits of which there are no fewer without them, have no more misses
    pub aged_misses_fall_by_hits : (rs : List (K × ℕ)) → aged_misses eq hits_more idle_more age_more rs ≤ aged_misses eq hits idle age rs
    aged_misses_fall_by_hits rs =
        omega (arith, falls_after [] [] [] rs (λ x. record { fewer = omega arith; near = λ time found. cc }))

  pub aged_misses_fall : AgedMissesFall eq
  aged_misses_fall k l idle longer_idle age longer_age rs more idle_below age_below =
      aged_misses_fall_by_hits (hit eq k) (hit eq l) idle longer_idle age longer_age (λ x past h. hit_grows eq more past x h) idle_below age_below rs

  pub aged_misses_by_size_fall : AgedMissesBySizeFall eq
  aged_misses_by_size_fall weight c d idle longer_idle age longer_age rs more idle_below age_below =
      aged_misses_fall_by_hits (hit_by_size eq weight c) (hit_by_size eq weight d) idle longer_idle age longer_age
      (λ x past h. hit_by_size_grows eq weight more past x h) idle_below age_below rs
