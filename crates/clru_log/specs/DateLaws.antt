-- What is true of the days of dates, whatever these are, and worked rows of times. Public clauses cite it.
use Rattle.std.specs.Prelude.{◌≡◌, ℕ, ◌+◌, ◌-◌, ◌<◌, ◌≤◌, true, List, [], ◌∷◌, map, slice_index, codes, Option, None, Some}
use Rattle.clru_log.specs.Calendar.{days_from_1970, days_of_year, is_date, months_of}
use Rattle.clru_log.specs.Dates.{time_of_log}

-- a date in a later year has more days before it
abbrev pub LaterYearsAreLater : Type 0
LaterYearsAreLater = (year month day year' month' day' : ℕ) → is_date year month day ≡ true → is_date year' month' day' ≡ true
    → year < year' → days_from_1970 year month day < days_from_1970 year' month' day'

-- in the same year one in a later month
abbrev pub LaterMonthsAreLater : Type 0
LaterMonthsAreLater = (year month day month' day' : ℕ) → is_date year month day ≡ true → is_date year month' day' ≡ true
    → month < month' → days_from_1970 year month day < days_from_1970 year month' day'

-- and in the same month a later day
abbrev pub LaterDaysAreLater : Type 0
LaterDaysAreLater = (year month day day' : ℕ) → is_date year month day ≡ true → is_date year month day' ≡ true
    → day < day' → days_from_1970 year month day < days_from_1970 year month day'

-- a day of a month is followed by the next
abbrev pub DaysFollow : Type 0
DaysFollow = (year month day : ℕ) → is_date year month day ≡ true → days_from_1970 year month (day + 1) ≡ days_from_1970 year month day + 1

-- a month begins as many days before the next as it has
abbrev pub MonthsFollow : Type 0
MonthsFollow = (year month : ℕ) → 1 ≤ month → month ≤ 12
    → days_from_1970 year (month + 1) 1 ≡ days_from_1970 year month 1 + slice_index (months_of year) (month - 1)

-- and so does a year
abbrev pub YearsFollow : Type 0
YearsFollow = (year : ℕ) → 1970 ≤ year → days_from_1970 (year + 1) 1 1 ≡ days_from_1970 year 1 1 + days_of_year year

-- columns, and the millionths that each names
abbrev pub worked : List (List ℕ × Option ℕ)
worked =
    (codes "[01/Jan/1970:00:00:00 +0000]", Some 0) ∷
    (codes "[15/Nov/2023:02:23:08 +0000]", Some 1700014988000000) ∷
    (codes "15/Nov/2023:02:23:08", Some 1700014988000000) ∷
    (codes "[15/Nov/2023:03:53:08 +0130]", Some 1700014988000000) ∷
    (codes "2023-11-14T18:23:08-08:00", Some 1700014988000000) ∷
    (codes "2023-11-15T02:23:08.25Z", Some 1700014988250000) ∷
    (codes "2023-11-15 02:23:08", Some 1700014988000000) ∷
    (codes "1700014988.25", Some 1700014988250000) ∷
    (codes "28/Feb/1972:23:59:59", Some 68169599000000) ∷
    (codes "29/Feb/1972:00:00:00", Some 68169600000000) ∷
    (codes "01/Mar/1972:00:00:00", Some 68256000000000) ∷
    (codes "2000-02-29T12:00:00Z", Some 951825600000000) ∷
    (codes "2000-03-01T00:00:00Z", Some 951868800000000) ∷
    (codes "2023-02-29T00:00:00Z", None) ∷
    (codes "2023-12-31T23:59:60Z", Some 1704067200000000) ∷
    (codes "2024-01-01T00:00:00Z", Some 1704067200000000) ∷
    (codes "2024-02-29T00:00:00Z", Some 1709164800000000) ∷
    (codes "2100-02-28T00:00:00Z", Some 4107456000000000) ∷
    (codes "2100-02-29T00:00:00Z", None) ∷
    (codes "2100-03-01T00:00:00Z", Some 4107542400000000) ∷
    (codes "9999-12-31T23:59:59Z", Some 253402300799000000) ∷
    (codes "1970-01-01T00:30:00+01:00", None) ∷
    (codes "1969-12-31T23:59:59Z", None) ∷
    (codes "2023-13-01T00:00:00Z", None) ∷
    (codes "2023-11-15T24:00:00Z", None) ∷
    (codes "[30/Feb/2024:00:00:00 +0000]", None) ∷
    (codes "-", None) ∷ []

abbrev pub WorkedTimes : Type 0
WorkedTimes = map (λ row. time_of_log row.0) worked ≡ map (λ row. row.1) worked
