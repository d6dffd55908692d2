use Rattle.std.proofs.Common.{refl}
use Rattle.clru_log.proofs.DateLaws.{days_follow, later_days, later_months, later_years, months_follow, years_follow}
use Rattle.clru_log.proofs.laws.law_dates.Goals as goal

pub returns-clause-years : goal.returns-clause-years
returns-clause-years c = later_years

pub returns-clause-months : goal.returns-clause-months
returns-clause-months c = later_months

pub returns-clause-days : goal.returns-clause-days
returns-clause-days c = later_days

pub returns-clause-next_day : goal.returns-clause-next_day
returns-clause-next_day c = days_follow

pub returns-clause-next_month : goal.returns-clause-next_month
returns-clause-next_month c = months_follow

pub returns-clause-next_year : goal.returns-clause-next_year
returns-clause-next_year c = years_follow

pub returns-clause-worked : goal.returns-clause-worked
returns-clause-worked c = refl
