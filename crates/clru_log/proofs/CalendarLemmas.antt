-- Days since 1970, counted by years and by a formula.
use Rattle.std.proofs.Common.{◌≡◌, ℕ, zero, suc, ◌+◌, ◌*◌, ◌/◌, ◌%◌, ◌≢◌, refl, ap, arith}
use Rattle.std.specs.Prelude.{◌==◌}
use Rattle.std.proofs.lemmas.Bool.{eqb-true, eqb-false}
use Rattle.clru_model.proofs.Cases.{split}
use Rattle.clru_log.specs.Calendar.{days_of_year, days_of_years}

module _ (y : ℕ) where
  stays_4 : (y + 1) % 4 ≢ 0 → (y + 1) / 4 ≡ y / 4
  stays_4 other = omega arith

  grows_4 : (y + 1) % 4 ≡ 0 → (y + 1) / 4 ≡ y / 4 + 1
  grows_4 none = omega arith

  stays_100 : (y + 1) % 100 ≢ 0 → (y + 1) / 100 ≡ y / 100
  stays_100 other = omega arith

  grows_100 : (y + 1) % 100 ≡ 0 → (y + 1) / 100 ≡ y / 100 + 1
  grows_100 none = omega arith

  stays_400 : (y + 1) % 400 ≢ 0 → (y + 1) / 400 ≡ y / 400
  stays_400 other = omega arith

  grows_400 : (y + 1) % 400 ≡ 0 → (y + 1) / 400 ≡ y / 400 + 1
  grows_400 none = omega arith

  -- a multiple of 100 is one of 4
  fourth : (y + 1) % 100 ≡ 0 → (y + 1) % 4 ≡ 0
  fourth hundredth = omega arith

  hundredth : (y + 1) % 400 ≡ 0 → (y + 1) % 100 ≡ 0
  hundredth all = omega arith

  -- the days of a year by how the counts of leap days grow
  pub steps : days_of_year (y + 1) + (y + 1) / 100 + y / 4 + y / 400 ≡ 365 + y / 100 + (y + 1) / 4 + (y + 1) / 400
  steps = split ((y + 1) % 4 == 0)
      (λ by_4. split ((y + 1) % 100 == 0)
      (λ by_100. split ((y + 1) % 400 == 0)
      (λ by_400. rw (by_4, by_100, by_400) (omega (arith, grows_4 (eqb-true _ _ by_4), grows_100 (eqb-true _ _ by_100), grows_400 (eqb-true _ _ by_400))))
      (λ not_400. rw (by_4, by_100, not_400) (omega (arith, grows_4 (eqb-true _ _ by_4), grows_100 (eqb-true _ _ by_100), stays_400 (eqb-false _ _ not_400)))))
      (λ not_100. rw (by_4, not_100) (omega (arith, grows_4 (eqb-true _ _ by_4), stays_100 (eqb-false _ _ not_100), stays_400 (λ h. eqb-false _ _ not_100 (hundredth h))))))
      (λ not_4. rw not_4 (omega (arith, stays_4 (eqb-false _ _ not_4), stays_100 (λ h. eqb-false _ _ not_4 (fourth h)), stays_400 (λ h. eqb-false _ _ not_4 (fourth (hundredth h))))))

-- by induction over the years
pub counted : (n : ℕ) → days_of_years n + 719162 + (1969 + n) / 100 ≡ (1969 + n) * 365 + (1969 + n) / 4 + (1969 + n) / 400
counted zero = refl
counted (suc n) =
    let year : 1970 + n ≡ 1969 + n + 1 = omega arith in
    omega (arith, counted n, steps (1969 + n), ap days_of_year year)
