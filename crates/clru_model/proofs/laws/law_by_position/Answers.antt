use Rattle.std.proofs.Common.{[]}
use Rattle.clru_model.specs.Requests.{marks}
use Rattle.clru_model.proofs.ByPosition.{marks_by_position, length-marks_after}
use Rattle.clru_model.proofs.DistinctByPosition.{distinct_by_position, false_marks_by_position}
use Rattle.clru_model.proofs.laws.law_by_position.Goals as goal

pub returns-clause-hits : goal.returns-clause-hits
returns-clause-hits g c = marks_by_position g.K.PartialEq.eq g.met.K.Eq.laws

pub returns-clause-one_mark_each : goal.returns-clause-one_mark_each
returns-clause-one_mark_each g c = length-marks_after g.K.PartialEq.eq []

pub returns-clause-misses : goal.returns-clause-misses
returns-clause-misses g c k requests = false_marks_by_position (marks g.K.PartialEq.eq k requests)

pub returns-clause-distinct : goal.returns-clause-distinct
returns-clause-distinct g c = distinct_by_position g.K.PartialEq.eq
