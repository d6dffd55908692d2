use Rattle.std.proofs.Common.{◌-◌, arith}
use Rattle.clru_log.proofs.CalendarLemmas.{counted}
use Rattle.clru_log.proofs.calendar.days_from_1970.Goals as goal

pub returns-clause-days : goal.returns-clause-days
returns-clause-days c = omega (arith, counted (c.args.year - 1970), c.days_before.ensures.days)
