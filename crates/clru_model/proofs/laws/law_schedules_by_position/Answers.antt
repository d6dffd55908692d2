use Rattle.clru_model.proofs.DistinctByPosition.{schedule_misses_counted}
use Rattle.clru_model.proofs.SchedulesByPosition.{schedules_by_position, schedule_misses_by_position}
use Rattle.clru_model.proofs.laws.law_schedules_by_position.Goals as goal

pub returns-clause-schedules : goal.returns-clause-schedules
returns-clause-schedules g c = schedules_by_position g.K.PartialEq.eq

pub returns-clause-marks : goal.returns-clause-marks
returns-clause-marks g c = schedule_misses_by_position g.K.PartialEq.eq

pub returns-clause-misses : goal.returns-clause-misses
returns-clause-misses g c = schedule_misses_counted g.K.PartialEq.eq
