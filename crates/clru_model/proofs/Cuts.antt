-- The misses of a list that is cut in two, and those of the requests for some of its keys.
use Rattle.std.proofs.Common.{◌≡◌, ℕ, ◌+◌, ◌-◌, ◌≤◌, Bool, true, false, cond, not, List, [], ◌∷◌, ◌++◌, refl, ap, ◌∙◌, arith, inl, inr, ltb, ltb-true, lt-ltb}
use Rattle.std.proofs.Common.{nat_lt, reverse, sym}
use Rattle.std.proofs.lemmas.Bool.{and_parts, cases_lt}
use Rattle.std.proofs.lemmas.Bool.Decides.{nat_tests}
use Rattle.std.specs.Cmp.{IsEquivalence}
use Rattle.std.specs.List.{filter, count_by}
use Rattle.clru_model.specs.Laws.{CutsMissMore, CutsMissFewMore, SomeKeysMissLess}
use Rattle.clru_model.specs.Requests.{holds, distinct, since, hit, marks_after}
use Rattle.clru_model.proofs.Cases.{split}
use Rattle.clru_model.proofs.Distinct.{holds-append, since-append, since-cons, distinct_mono}
use Rattle.clru_model.proofs.Marks.{count_by-not-cons, count_by-not-append, marks_after-append, missed-le}

module _ {K : Type 0} (eq : K → K → Bool) (laws : IsEquivalence eq) where
  -- what hits after some requests hits where older ones came before them
  hit-append : (k : ℕ) (x : K) (past older : List K) → hit eq k x past ≡ true → hit eq k x (past ++ older) ≡ true
  hit-append k x past older h =
      let parts = and_parts (holds eq x past) (ltb (distinct eq (since eq x past)) k) h in
      rw (holds-append eq x past older, parts.0, since-append eq laws x past older parts.0) parts.1

  fewer_after : (k : ℕ) (past older rs : List K)
      → count_by not (marks_after eq k (past ++ older) rs) ≤ count_by not (marks_after eq k past rs)
  fewer_after k past older [] = omega arith
  fewer_after k past older (x ∷ rs) =
      let ih = fewer_after k (x ∷ past) older rs in
      rw (count_by-not-cons (hit eq k x (past ++ older)), count_by-not-cons (hit eq k x past)) (split (hit eq k x past)
      (λ t. rw (t, hit-append k x past older t) (omega (arith, ih)))
      (λ f. rw f (omega (arith, ih, missed-le (hit eq k x (past ++ older)) 1))))

  pub cuts_miss_more : CutsMissMore eq
  cuts_miss_more k first second =
      let fewer = fewer_after k [] (reverse first ++ []) second in
      rw (marks_after-append eq [] k first second, count_by-not-append (marks_after eq k [] first)) (omega (arith, fewer))

  -- all requests of the past are since a key that none of them asks for
  since_beyond : (x : K) (past older : List K) (z : K) → holds eq x past ≡ false → holds eq z past ≡ true → holds eq z (since eq x (past ++ older)) ≡ true
  since_beyond x [] older z new h = cc
  since_beyond x (y ∷ past) older z new h =
      rw (since-cons eq x y (past ++ older)) (split (eq x y)
      (λ t. cc (rw t at new))
      (λ f. rw f (split (eq z y) (λ t. rw t refl) (λ g. rw g (since_beyond x past older z (rw f at new) (rw g at h))))))

  -- as many more miss without the older requests as keys find room
  more_after : (k : ℕ) (past older rs : List K)
      → count_by not (marks_after eq k past rs) ≤ count_by not (marks_after eq k (past ++ older) rs) + (k - distinct eq past)
  more_after k past older [] = omega arith
  more_after k past older (x ∷ rs) =
      let ih = more_after k (x ∷ past) older rs in
      rw (count_by-not-cons (hit eq k x (past ++ older)), count_by-not-cons (hit eq k x past)) (split (holds eq x past)
      (λ t. let same : hit eq k x (past ++ older) ≡ hit eq k x past = rw (holds-append eq x past older, t, since-append eq laws x past older t) refl in
      let kept = rw t at ih in
      rw same (omega (arith, kept)))
      (λ new. let missed : hit eq k x past ≡ false = rw new refl in
      let more = rw new at ih in
      elim (cases_lt (distinct eq past) k) [
        | inl room ↦ rw missed (omega (arith, more))
        | inr full ↦
            let beyond = distinct_mono eq laws past (since eq x (past ++ older)) (λ z h. since_beyond x past older z new h) in
            let far : nat_lt (distinct eq (since eq x (past ++ older))) k ≡ false = grind (arith, nat_tests) in
            let misses_too : hit eq k x (past ++ older) ≡ false = rw far (split (holds eq x (past ++ older)) (λ t. rw t refl) (λ f. rw f refl)) in
            rw (missed, misses_too) (omega (arith, more))
      ]))

  pub cuts_miss_few_more : CutsMissFewMore eq
  cuts_miss_few_more k first second =
      let more = more_after k [] (reverse first ++ []) second in
      rw (marks_after-append eq [] k first second, count_by-not-append (marks_after eq k [] first)) (omega (arith, more))

  module _ (test : K → Bool) (alike : (x y : K) → eq x y ≡ true → test x ≡ test y) where
    filter-cons : (x : K) (xs : List K) → filter test (x ∷ xs) ≡ cond (test x) (x ∷ filter test xs) (filter test xs)
    filter-cons x xs = refl

    holds-filter : (x : K) (ks : List K) → holds eq x (filter test ks) ≡ cond (test x) (holds eq x ks) false
    holds-filter x [] = split (test x) (λ t. rw t refl) (λ f. rw f refl)
    holds-filter x (k ∷ ks) =
        let ih = holds-filter x ks in
        split (eq x k)
        (λ t. rw (t, ← alike x k t) (split (test x) (λ u. rw (u, t) refl) (λ v. rw v (rw v at ih))))
        (λ f. rw f (split (test k) (λ u. rw (u, f) ih) (λ v. rw v ih)))

    since-filter : (x : K) (past : List K) → test x ≡ true → since eq x (filter test past) ≡ filter test (since eq x past)
    since-filter x [] passes = refl
    since-filter x (y ∷ past) passes =
        let ih = since-filter x past passes in
        rw (since-cons eq x y past) (split (eq x y)
        (λ t. let there : test y ≡ true = sym (alike x y t) ∙ passes in rw (there, since-cons eq x y (filter test past), t) refl)
        (λ f. rw f (split (test y)
        (λ u. rw (u, since-cons eq x y (filter test past), f) (ap (λ l. y ∷ l) ih))
        (λ v. rw v ih))))

    distinct-filter : (ks : List K) → distinct eq (filter test ks) ≤ distinct eq ks
    distinct-filter ks = distinct_mono eq laws (filter test ks) ks (λ z h. split (test z)
        (λ t. sym (holds-filter z ks ∙ (rw t refl)) ∙ h)
        (λ f. cc (rw (holds-filter z ks, f) at h)))

    some_after : (k : ℕ) (past rs : List K)
        → count_by not (marks_after eq k (filter test past) (filter test rs)) ≤ count_by not (marks_after eq k past rs)
    some_after k past [] = omega arith
    some_after k past (x ∷ rs) =
        let ih = some_after k (x ∷ past) rs in
        rw (count_by-not-cons (hit eq k x past)) (split (test x)
        (λ t. let rest = rw t at ih in
        rw (t, count_by-not-cons (hit eq k x (filter test past))) (split (hit eq k x past)
        (λ h. let parts = and_parts (holds eq x past) (ltb (distinct eq (since eq x past)) k) h in
        let less = distinct-filter (since eq x past) in
        let near : nat_lt (distinct eq (filter test (since eq x past))) k ≡ true = lt-ltb _ k (omega (arith, less, ltb-true _ k parts.1)) in
        let here : hit eq k x (filter test past) ≡ true = rw (holds-filter x past, t, since-filter x past t, parts.0) near in
        rw (h, here) (omega (arith, rest)))
        (λ f. rw f (omega (arith, rest, missed-le (hit eq k x (filter test past)) 1)))))
        (λ f. let rest = rw f at ih in rw f (omega (arith, rest))))

  pub some_keys_miss_less : SomeKeysMissLess eq
  some_keys_miss_less k test rs alike = some_after test alike k [] rs
