use Rattle.clru_model.proofs.Floor.{hits_are_paid, floor_is_below, size_floor_is_below, floor_is_below_least}
use Rattle.clru_model.proofs.SizedReplaySchedules.{floor_below_replay, size_floor_below_replay}
use Rattle.clru_model.proofs.laws.law_floor.Goals as goal

pub returns-clause-paid : goal.returns-clause-paid
returns-clause-paid g c = hits_are_paid g.K.PartialEq.eq g.met.K.Eq.laws

pub returns-clause-misses : goal.returns-clause-misses
returns-clause-misses g c = floor_is_below g.K.PartialEq.eq g.met.K.Eq.laws

pub returns-clause-missed_size : goal.returns-clause-missed_size
returns-clause-missed_size g c = size_floor_is_below g.K.PartialEq.eq g.met.K.Eq.laws

pub returns-clause-below_least : goal.returns-clause-below_least
returns-clause-below_least g c = floor_is_below_least g.K.PartialEq.eq g.met.K.Eq.laws

pub returns-clause-below_replay : goal.returns-clause-below_replay
returns-clause-below_replay g c = floor_below_replay g.K.PartialEq.eq g.met.K.Eq.laws

pub returns-clause-size_below_replay : goal.returns-clause-size_below_replay
returns-clause-size_below_replay g c = size_floor_below_replay g.K.PartialEq.eq g.met.K.Eq.laws
