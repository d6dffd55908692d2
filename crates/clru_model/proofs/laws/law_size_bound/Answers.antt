use Rattle.clru_model.proofs.Bound.{competitive_by_size, competitive_by_size_from_any_start, schedule_missed_weightless, schedule_weightless}
use Rattle.clru_model.proofs.KeyedRuns.{sized_puts_compete, sized_puts_compete_from_any_start}
use Rattle.clru_model.proofs.laws.law_size_bound.Goals as goal

pub returns-clause-bound : goal.returns-clause-bound
returns-clause-bound g c weight size requests same = competitive_by_size g.K.PartialEq.eq g.met.K.Eq.laws weight same size requests

pub returns-clause-bound_any_start : goal.returns-clause-bound_any_start
returns-clause-bound_any_start g c weight size requests same =
    competitive_by_size_from_any_start g.K.PartialEq.eq g.met.K.Eq.laws weight same size requests

pub returns-clause-puts : goal.returns-clause-puts
returns-clause-puts g c weight pair_weight size requests later same puts run =
    sized_puts_compete g.K.PartialEq.eq g.row.V.Denot g.met.K.Eq.laws weight pair_weight size requests later same puts run

pub returns-clause-puts_any_start : goal.returns-clause-puts_any_start
returns-clause-puts_any_start g c weight pair_weight size requests later same puts run =
    sized_puts_compete_from_any_start g.K.PartialEq.eq g.row.V.Denot g.met.K.Eq.laws weight pair_weight size requests later same puts run

pub returns-clause-weightless_misses : goal.returns-clause-weightless_misses
returns-clause-weightless_misses g c = schedule_missed_weightless g.K.PartialEq.eq

pub returns-clause-weightless_schedules : goal.returns-clause-weightless_schedules
returns-clause-weightless_schedules g c = schedule_weightless g.K.PartialEq.eq
