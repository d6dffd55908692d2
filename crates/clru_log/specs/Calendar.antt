-- The calendar: leap years, the days of months, and days since 1970. Years are those of the Gregorian calendar. Public clauses cite it.
use Rattle.std.specs.Prelude.{ℕ, zero, suc, ◌+◌, ◌-◌, ◌%◌, ◌==◌, Bool, ◌&&◌, ◌||◌, not, nat_le, List, [], ◌∷◌, take, sum, slice_index, Option, None, Some, if◌then◌else◌}

-- each fourth year, of the hundredth ones each fourth
abbrev pub is_leap : ℕ → Bool
is_leap year = year % 4 == 0 && (not (year % 100 == 0) || year % 400 == 0)

-- the days of each month of a year
abbrev pub months_of : ℕ → List ℕ
months_of year = 31 ∷ (if is_leap year then 29 else 28) ∷ 31 ∷ 30 ∷ 31 ∷ 30 ∷ 31 ∷ 31 ∷ 30 ∷ 31 ∷ 30 ∷ 31 ∷ []

abbrev pub days_of_year : ℕ → ℕ
days_of_year year = sum (months_of year)

-- the days of so many years from 1970 on
abbrev pub days_of_years : ℕ → ℕ
days_of_years zero = 0
days_of_years (suc n) = days_of_years n + days_of_year (1970 + n)

-- the days of the months before this one; January is month 1
abbrev pub days_before : ℕ → ℕ → ℕ
days_before year month = sum (take (month - 1) (months_of year))

-- the days from the first of January 1970 to this date
abbrev pub days_from_1970 : ℕ → ℕ → ℕ → ℕ
days_from_1970 year month day = days_of_years (year - 1970) + days_before year month + (day - 1)

-- the calendar has this date, and it is in 1970 or later
abbrev pub is_date : ℕ → ℕ → ℕ → Bool
is_date year month day = nat_le 1970 year && (nat_le 1 month && (nat_le 1 day && nat_le day (slice_index (months_of year) (month - 1))))

-- the days from 1970 to a date, if it is one
abbrev pub days_to : ℕ → ℕ → ℕ → Option ℕ
days_to year month day = if is_date year month day then Some (days_from_1970 year month day) else None
