-- The hits by size of requests with times, after one more request.
use Rattle.std.proofs.Common.{◌≡◌, ℕ, ◌+◌, Bool, true, false, cond, nat_le, None, Some, List, [], ◌∷◌, ◌++◌, reverse, refl, ◌∙◌, arith}
use Rattle.std.proofs.lemmas.List.Sums.{sum_by-cons, sum_by_push}
use Rattle.std.specs.Cmp.{IsEquivalence}
use Rattle.std.specs.Map.{keys_of}
use Rattle.clru_model.proofs.Cases.{split}
use Rattle.clru_model.proofs.IdleMarks.{idle_marks_within}
use Rattle.clru_model.specs.Ages.{is_recent}
use Rattle.clru_model.specs.Requests.{holds, since}
use Rattle.clru_model.specs.Sizes.{total, span, hit_by_size}
use Rattle.clru_model.specs.Spans.{is_within}
use Rattle.clru_curve.specs.declared.sized.step.Step.{Step}
use Rattle.clru_curve.specs.Seen.{reuse_by}
use Rattle.clru_curve.specs.SizedCurves.{step, hits_within}
use Rattle.clru_curve.specs.SizedIdlePasses.{idle_misses_by_size, idle_missed_size, AreIdleHits}
use Rattle.clru_curve.specs.SizedPasses.{hit_size}
use Rattle.clru_curve.proofs.IdleReuses.{reuse-late, reuse-soon, reuse-new, aged_misses-cons, aged_missed-cons}
use Rattle.clru_curve.proofs.SizedHits.{count_by_push}

module _ {K : Type 0} (eq : K → K → Bool) (laws : IsEquivalence eq) (weight : K → ℕ) (idle : ℕ) where
  pub AreIdleHits-none : AreIdleHits eq weight idle [] []
  AreIdleHits-none = record { misses = λ c. refl; size = λ c. refl }

  module _ (past : List (K × ℕ)) (hits : List Step) (r : K × ℕ) (are : AreIdleHits eq weight idle past hits) where
    misses-cons : (c : ℕ) → idle_misses_by_size eq weight idle c (reverse (r ∷ past))
        ≡ idle_misses_by_size eq weight idle c (reverse past) + cond (is_within c (reuse_by eq (span eq weight) idle r past)) 0 1
    misses-cons c = aged_misses-cons eq (span eq weight) idle (hit_by_size eq weight c) (is_within c) (idle_marks_within eq laws weight c (Some idle)) past r

    size-cons : (c : ℕ) → idle_missed_size eq weight idle c (reverse (r ∷ past))
        ≡ idle_missed_size eq weight idle c (reverse past) + cond (is_within c (reuse_by eq (span eq weight) idle r past)) 0 (1 + weight r.0)
    size-cons c =
        aged_missed-cons eq (span eq weight) idle (hit_by_size eq weight c) (is_within c) (idle_marks_within eq laws weight c (Some idle)) weight past r

    -- without a span it misses everywhere
    without : reuse_by eq (span eq weight) idle r past ≡ None → AreIdleHits eq weight idle (r ∷ past) hits
    without none = record {
      misses = λ c.
          let one : idle_misses_by_size eq weight idle c (reverse (r ∷ past)) ≡ idle_misses_by_size eq weight idle c (reverse past) + 1 = rw none at misses-cons c in
          omega (arith, one, are.misses c);
      size = λ c.
          let more : idle_missed_size eq weight idle c (reverse (r ∷ past)) ≡ idle_missed_size eq weight idle c (reverse past) + (1 + weight r.0) =
          rw none at size-cons c in
          omega (arith, more, are.size c, sum_by-cons (λ y. 1 + weight y) r.0 (keys_of past));
    }

    -- with one it hits from there on
    within : (s : ℕ) → reuse_by eq (span eq weight) idle r past ≡ Some s → AreIdleHits eq weight idle (r ∷ past) (hits ++ step s (1 + weight r.0) ∷ [])
    within s some =
        let h : Step = step s (1 + weight r.0) in
        record {
          misses = λ c.
              let pushed : idle_misses_by_size eq weight idle c (reverse (r ∷ past))
              ≡ idle_misses_by_size eq weight idle c (reverse past) + cond (nat_le s c) 0 1 = rw some at misses-cons c in
              let more = count_by_push (λ g. nat_le g.capacity c) hits h in
              split (nat_le s c)
              (λ t. let same : idle_misses_by_size eq weight idle c (reverse (r ∷ past)) ≡ idle_misses_by_size eq weight idle c (reverse past) + 0 = rw t at pushed in
              let one : hits_within c (hits ++ h ∷ []) ≡ hits_within c hits + 1 = rw t at more in
              omega (arith, same, one, are.misses c))
              (λ f. let one : idle_misses_by_size eq weight idle c (reverse (r ∷ past)) ≡ idle_misses_by_size eq weight idle c (reverse past) + 1 = rw f at pushed in
              let same : hits_within c (hits ++ h ∷ []) ≡ hits_within c hits + 0 = rw f at more in
              omega (arith, same, one, are.misses c));
          size = λ c.
              let pushed : idle_missed_size eq weight idle c (reverse (r ∷ past))
              ≡ idle_missed_size eq weight idle c (reverse past) + cond (nat_le s c) 0 (1 + weight r.0) = rw some at size-cons c in
              let more = sum_by_push (λ g. cond (nat_le g.capacity c) g.missed_size 0) hits h in
              let all = sum_by-cons (λ y. 1 + weight y) r.0 (keys_of past) in
              split (nat_le s c)
              (λ t. let same : idle_missed_size eq weight idle c (reverse (r ∷ past)) ≡ idle_missed_size eq weight idle c (reverse past) + 0 = rw t at pushed in
              let one : hit_size c (hits ++ h ∷ []) ≡ hit_size c hits + (1 + weight r.0) = rw t at more in
              omega (arith, same, one, all, are.size c))
              (λ f. let one : idle_missed_size eq weight idle c (reverse (r ∷ past)) ≡ idle_missed_size eq weight idle c (reverse past) + (1 + weight r.0) =
              rw f at pushed in
              let same : hit_size c (hits ++ h ∷ []) ≡ hit_size c hits + 0 = rw f at more in
              omega (arith, same, one, all, are.size c));
        }

    -- a key that was not requested before
    pub AreIdleHits-new : holds eq r.0 (keys_of past) ≡ false → AreIdleHits eq weight idle (r ∷ past) hits
    AreIdleHits-new absent = without (reuse-new eq (span eq weight) idle r past (rw absent refl))

    -- a key that was requested before, and its span, which is one if it comes soon enough
    pub AreIdleHits-again : holds eq r.0 (keys_of past) ≡ true → (soon : Bool) → is_recent eq (Some idle) r past ≡ soon
        → AreIdleHits eq weight idle (r ∷ past)
        (cond soon (hits ++ step (1 + weight r.0 + total eq weight (since eq r.0 (keys_of past))) (1 + weight r.0) ∷ []) hits)
    AreIdleHits-again held false late = without (reuse-late eq (span eq weight) idle r past late)
    AreIdleHits-again held true soon =
        within (1 + weight r.0 + total eq weight (since eq r.0 (keys_of past))) (reuse-soon eq (span eq weight) idle r past soon ∙ rw held refl)
