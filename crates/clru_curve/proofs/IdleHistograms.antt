-- The numbers of requests with times at each distance, after one more request.
use Rattle.std.proofs.Common.{◌≡◌, ℕ, suc, ◌+◌, ◌<◌, ◌≤◌, Bool, true, false, cond, None, Some, List, [], ◌∷◌, ◌++◌, length, get_or, set, take, reverse, inl, inr, refl, sym, ap, ◌∙◌, arith, length-set}
use Rattle.std.proofs.lemmas.Bool.{cases_lt}
use Rattle.std.proofs.lemmas.Bool.Decides.{nat_tests}
use Rattle.std.proofs.lemmas.List.{length_push}
use Rattle.std.proofs.lemmas.Map.Entries.{length-keys_of}
use Rattle.std.specs.Cmp.{IsEquivalence}
use Rattle.std.specs.Map.{keys_of}
use Rattle.std.specs.Prelude.{sum, nat_lt}
use Rattle.clru_model.proofs.Distinct.{since_within, distinct_since_less}
use Rattle.clru_model.proofs.IdleMarks.{idle_marks_below}
use Rattle.clru_model.specs.Ages.{is_recent}
use Rattle.clru_model.specs.Distances.{distance, is_below}
use Rattle.clru_model.specs.Requests.{holds, distinct, since, hit}
use Rattle.clru_curve.specs.IdlePasses.{idle_misses, HasIdleMissesOf, IsIdleHistogram}
use Rattle.clru_curve.specs.Seen.{reuse_by}
use Rattle.clru_curve.proofs.IdleReuses.{reuse-late, reuse-soon, reuse-new, aged_misses-cons}
use Rattle.clru_curve.proofs.Histograms.{take-nil, sum-take-set, sum-take_push, sum-take-suc, none_distinct, curve_at}
use Rattle.clru_curve.proofs.UpTo.{up_to-le, up_to-gt}

module _ {K : Type 0} (eq : K → K → Bool) (laws : IsEquivalence eq) (idle : ℕ) where
  -- the misses after one more request, of the requests with the latest first
  pub idle_misses-cons : (k : ℕ) (r : K × ℕ) (past : List (K × ℕ)) → idle_misses eq idle k (reverse (r ∷ past))
      ≡ idle_misses eq idle k (reverse past) + cond (is_below k (reuse_by eq (distance eq) idle r past)) 0 1
  idle_misses-cons k r past = aged_misses-cons eq (distance eq) idle (hit eq k) (is_below k) (idle_marks_below eq laws k (Some idle)) past r

  pub IsIdleHistogram-none : IsIdleHistogram eq idle [] []
  IsIdleHistogram-none = record { distinct = refl; hits = λ k. omega (arith, ap (λ l. sum l) (take-nil k)) }

  module _ (past : List (K × ℕ)) (h : List ℕ) (r : K × ℕ) (is : IsIdleHistogram eq idle past h) where
    -- without a distance there is one miss more
    one_more : reuse_by eq (distance eq) idle r past ≡ None
        → (k : ℕ) → idle_misses eq idle k (reverse (r ∷ past)) ≡ idle_misses eq idle k (reverse past) + 1
    one_more none k = let pushed = idle_misses-cons k r past in rw none at pushed

    -- a key that was not requested before
    pub IsIdleHistogram-new : holds eq r.0 (keys_of past) ≡ false → IsIdleHistogram eq idle (r ∷ past) (h ++ 0 ∷ [])
    IsIdleHistogram-new absent =
        let none = reuse-new eq (distance eq) idle r past (rw absent refl) in
        record {
          distinct = rw absent (omega (arith, length_push h 0, is.distinct));
          hits = λ k. omega (arith, one_more none k, is.hits k, sum-take_push k h);
        }

    -- a key that was requested before
    module _ (held : holds eq r.0 (keys_of past) ≡ true) where
      pub idle_distance_inside : distinct eq (since eq r.0 (keys_of past)) < length h
      idle_distance_inside =
          omega (arith, is.distinct, distinct_since_less eq laws r.0 (keys_of past) (keys_of past) held (λ z g. since_within eq laws r.0 z (keys_of past) g))

      -- no number passes that of the requests
      pub idle_distance_few : get_or h (distinct eq (since eq r.0 (keys_of past))) 0 ≤ length past
      idle_distance_few =
          let d = distinct eq (since eq r.0 (keys_of past)) in omega (arith, is.hits (suc d), sum-take-suc h d)

      -- it is counted if it comes soon enough
      pub IsIdleHistogram-again : (soon : Bool) → is_recent eq (Some idle) r past ≡ soon → (d : ℕ) → d ≡ distinct eq (since eq r.0 (keys_of past))
          → IsIdleHistogram eq idle (r ∷ past) (cond soon (set h d (get_or h d 0 + 1)) h)
      IsIdleHistogram-again false late d at =
          let none = reuse-late eq (distance eq) idle r past late in
          record {
            distinct = rw held is.distinct;
            hits = λ k. omega (arith, one_more none k, is.hits k);
          }
      IsIdleHistogram-again true soon d at =
          let inside : d < length h = omega (arith, at, idle_distance_inside) in
          let reuse : reuse_by eq (distance eq) idle r past ≡ Some d = reuse-soon eq (distance eq) idle r past soon ∙ rw held (ap (λ n. Some n) (sym at)) in
          record {
            distinct = rw held (omega (arith, length-set h d (get_or h d 0 + 1), is.distinct));
            hits = λ k.
                let pushed : idle_misses eq idle k (reverse (r ∷ past)) ≡ idle_misses eq idle k (reverse past) + cond (nat_lt d k) 0 1 =
                rw reuse at (idle_misses-cons k r past) in
                let more = sum-take-set k h d inside in
                elim (cases_lt d k) [
                  | inl lt ↦
                      let low : nat_lt d k ≡ true = grind (arith, nat_tests) in
                      let same : idle_misses eq idle k (reverse (r ∷ past)) ≡ idle_misses eq idle k (reverse past) + 0 = rw low at pushed in
                      omega (arith, same, is.hits k, more, up_to-le (suc d) k lt)
                  | inr ge ↦
                      let high : nat_lt d k ≡ false = grind (arith, nat_tests) in
                      let one : idle_misses eq idle k (reverse (r ∷ past)) ≡ idle_misses eq idle k (reverse past) + 1 = rw high at pushed in
                      omega (arith, one, is.hits k, more, up_to-gt (suc d) k (omega arith))
                ];
          }

-- the requests without those of lesser distances are misses
pub HasIdleMissesOf-by : {K : Type 0} (eq : K → K → Bool) (idle : ℕ) (past : List (K × ℕ)) (h curve : List ℕ) → IsIdleHistogram eq idle past h
    → length curve ≡ length h → ((i : ℕ) → i < length h → get_or curve i 0 + sum (take (suc i) h) ≡ length past) → HasIdleMissesOf eq idle (reverse past) curve
HasIdleMissesOf-by eq idle past h curve is len at k some =
    omega (arith, curve_at h curve (length past) len at none k some, is.hits k)
  where
    none : length h ≡ 0 → length past ≡ 0
    none empty = omega (arith, none_distinct eq (keys_of past) (sym is.distinct ∙ empty), length-keys_of past)
