use Rattle.clru_model.proofs.Bypass as bypass
use Rattle.clru_model.proofs.Least as least
use Rattle.clru_model.proofs.LeastIsThere.{least_is_there, least_near_from_any_start}
use Rattle.clru_model.proofs.laws.law_least.Goals as goal

pub returns-clause-there : goal.returns-clause-there
returns-clause-there g c = least_is_there g.K.PartialEq.eq g.met.K.Eq.laws

pub returns-clause-one : goal.returns-clause-one
returns-clause-one g c = least.least_is_one g.K.PartialEq.eq

pub returns-clause-falls : goal.returns-clause-falls
returns-clause-falls g c = least.least_falls g.K.PartialEq.eq

pub returns-clause-schedule : goal.returns-clause-schedule
returns-clause-schedule g c = least.replay_is_schedule g.K.PartialEq.eq g.met.K.Eq.laws

pub returns-clause-below : goal.returns-clause-below
returns-clause-below g c = least.least_below_replay g.K.PartialEq.eq g.met.K.Eq.laws

pub returns-clause-near : goal.returns-clause-near
returns-clause-near g c = least.replay_near_least g.K.PartialEq.eq g.met.K.Eq.laws

pub returns-clause-room_for_all : goal.returns-clause-room_for_all
returns-clause-room_for_all g c = bypass.room_for_all_has_distinct g.K.PartialEq.eq g.met.K.Eq.laws

pub returns-clause-any_start : goal.returns-clause-any_start
returns-clause-any_start g c = least_near_from_any_start g.K.PartialEq.eq g.met.K.Eq.laws

pub returns-clause-may_pass : goal.returns-clause-may_pass
returns-clause-may_pass g c = bypass.schedules_may_pass g.K.PartialEq.eq

pub returns-clause-floor : goal.returns-clause-floor
returns-clause-floor g c = bypass.distinct_is_floor g.K.PartialEq.eq g.met.K.Eq.laws

pub returns-clause-one_key_more : goal.returns-clause-one_key_more
returns-clause-one_key_more g c = bypass.one_key_more_is_enough g.K.PartialEq.eq g.met.K.Eq.laws
