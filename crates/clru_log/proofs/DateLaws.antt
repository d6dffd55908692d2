-- The days of a date beside those of others.
use Rattle.std.proofs.Common.{◌≡◌, ℕ, zero, suc, ◌+◌, ◌-◌, ◌<◌, ◌≤◌, true, List, [], ◌∷◌, take, get_or, ap, arith}
use Rattle.std.specs.Prelude.{nat_le, nat_lt, sum, ◌&&◌}
use Rattle.std.proofs.lemmas.Bool.{and_parts, leb-true, ltb-false, ltb-true}
use Rattle.std.proofs.lemmas.List.{get_or_past}
use Rattle.std.proofs.lemmas.List.Sums.{sum_by-cons, sum_by_more}
use Rattle.clru_model.proofs.Cases.{split}
use Rattle.clru_log.specs.Calendar.{days_before, days_of_year, days_of_years, is_date, months_of}
use Rattle.clru_log.specs.DateLaws.{DaysFollow, LaterDaysAreLater, LaterMonthsAreLater, LaterYearsAreLater, MonthsFollow, YearsFollow}

-- the first items and the next one are no more than a longer beginning
begins : (xs : List ℕ) (i j : ℕ) → i < j → sum (take i xs) + get_or xs i 0 ≤ sum (take j xs)
begins xs i zero less = absurd (omega arith)
begins [] zero (suc j) less = let none : 0 ≤ 0 = omega arith in none
begins [] (suc i) (suc j) less = let none : 0 ≤ 0 = omega arith in none
begins (x ∷ xs) zero (suc j) less =
    let first : 0 + x ≤ sum (x ∷ take j xs) = omega (arith, sum_by-cons (λ n. n) x (take j xs)) in first
begins (x ∷ xs) (suc i) (suc j) less =
    let more : sum (x ∷ take i xs) + get_or xs i 0 ≤ sum (x ∷ take j xs) =
    omega (arith, sum_by-cons (λ n. n) x (take i xs), sum_by-cons (λ n. n) x (take j xs), begins xs i j (omega arith)) in more

-- what a date that exists tells
record IsDate (year month day : ℕ) : Type 0 where
  pub from_1970 : 1970 ≤ year
  pub from_january : 1 ≤ month
  pub to_december : month ≤ 12
  pub from_first : 1 ≤ day
  pub to_last : day ≤ get_or (months_of year) (month - 1) 0

tells : (year month day : ℕ) → is_date year month day ≡ true → IsDate year month day
tells year month day is =
    let last = get_or (months_of year) (month - 1) 0 in
    let one = and_parts (nat_le 1970 year) (nat_le 1 month && (nat_le 1 day && nat_le day last)) is in
    let two = and_parts (nat_le 1 month) (nat_le 1 day && nat_le day last) one.1 in
    let three = and_parts (nat_le 1 day) (nat_le day last) two.1 in
    let from_1970 : 1970 ≤ year = leb-true 1970 year one.0 in
    let from_january : 1 ≤ month = leb-true 1 month two.0 in
    let from_first : 1 ≤ day = leb-true 1 day three.0 in
    let to_last : day ≤ last = leb-true day last three.1 in
    record {
      from_1970 = from_1970;
      from_january = from_january;
      to_december = split (nat_lt 12 month)
          (λ past. let out : 12 < month = ltb-true 12 month past in
          let none : last ≡ 0 = get_or_past (months_of year) (month - 1) 0 (omega arith) in absurd (omega arith))
          (λ within. ltb-false 12 month within);
      from_first = from_first;
      to_last = to_last;
    }

-- the years between two are whole
years_grow : (n k : ℕ) → days_of_years n + days_of_year (1970 + n) ≤ days_of_years (n + suc k)
years_grow n zero = let one : n + 1 ≡ suc n = omega arith in rw one (omega arith)
years_grow n (suc k) =
    let one : n + suc (suc k) ≡ suc (n + suc k) = omega arith in
    rw one (omega (arith, years_grow n k))

pub later_years : LaterYearsAreLater
later_years year month day year' month' day' is is' less =
    let early = tells year month day is in let late = tells year' month' day' is' in
    let apart : (year - 1970) + suc (year' - year - 1) ≡ year' - 1970 = omega arith in
    let same : 1970 + (year - 1970) ≡ year = omega arith in
    let grow : days_of_years (year - 1970) + days_of_year year ≤ days_of_years (year' - 1970) =
    omega (arith, years_grow (year - 1970) (year' - year - 1), ap days_of_years apart, ap days_of_year same) in
    let before : days_before year month + get_or (months_of year) (month - 1) 0 ≤ days_of_year year = begins (months_of year) (month - 1) 12 (omega arith) in
    omega (arith, grow, before, early.to_last, early.from_first)

pub later_months : LaterMonthsAreLater
later_months year month day month' day' is is' less =
    let early = tells year month day is in let late = tells year month' day' is' in
    let before : days_before year month + get_or (months_of year) (month - 1) 0 ≤ days_before year month' = begins (months_of year) (month - 1) (month' - 1) (omega arith) in
    omega (arith, before, early.to_last, early.from_first)

pub later_days : LaterDaysAreLater
later_days year month day day' is is' less = let early = tells year month day is in omega (arith, early.from_first)

pub days_follow : DaysFollow
days_follow year month day is = let here = tells year month day is in omega (arith, here.from_first)

pub months_follow : MonthsFollow
months_follow year month from to =
    let same : month + 1 - 1 ≡ month - 1 + 1 = omega arith in
    let within : month - 1 < 12 = omega arith in
    let before : days_before year (month + 1) ≡ sum (take (month - 1 + 1) (months_of year)) = ap (λ n. sum (take n (months_of year))) same in
    let next : sum (take (month - 1 + 1) (months_of year)) ≡ sum (take (month - 1) (months_of year)) + get_or (months_of year) (month - 1) 0 =
    sum_by_more (λ n. n) (months_of year) (month - 1) 0 within in
    omega (arith, before, next)

pub years_follow : YearsFollow
years_follow year from =
    let more : year + 1 - 1970 ≡ suc (year - 1970) = omega arith in
    let same : 1970 + (year - 1970) ≡ year = omega arith in
    omega (arith, ap days_of_years more, ap days_of_year same)
