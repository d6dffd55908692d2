use Rattle.clru_model.proofs.Cuts as cuts
use Rattle.clru_model.proofs.Joins.{join_is_of_both, joins_associate, samples_keep_parts}
use Rattle.clru_model.proofs.PartKinds as kinds
use Rattle.clru_model.proofs.TestedParts.{tested_parts_miss}
use Rattle.clru_model.proofs.laws.law_parts.Goals as goal

pub returns-clause-cut : goal.returns-clause-cut
returns-clause-cut g c = cuts.cuts_miss_more g.K.PartialEq.eq g.met.K.Eq.laws

pub returns-clause-cut_few : goal.returns-clause-cut_few
returns-clause-cut_few g c = cuts.cuts_miss_few_more g.K.PartialEq.eq g.met.K.Eq.laws

pub returns-clause-some_keys : goal.returns-clause-some_keys
returns-clause-some_keys g c = cuts.some_keys_miss_less g.K.PartialEq.eq g.met.K.Eq.laws

pub returns-clause-parts : goal.returns-clause-parts
returns-clause-parts g c = kinds.parts_miss g.K.PartialEq.eq g.met.K.Eq.laws

pub returns-clause-by_size : goal.returns-clause-by_size
returns-clause-by_size g c = kinds.parts_miss_by_size g.K.PartialEq.eq g.met.K.Eq.laws

pub returns-clause-size : goal.returns-clause-size
returns-clause-size g c = kinds.parts_miss_size g.K.PartialEq.eq g.met.K.Eq.laws

pub returns-clause-idle : goal.returns-clause-idle
returns-clause-idle g c = kinds.idle_parts_miss g.K.PartialEq.eq g.met.K.Eq.laws

pub returns-clause-idle_by_size : goal.returns-clause-idle_by_size
returns-clause-idle_by_size g c = kinds.idle_parts_miss_by_size g.K.PartialEq.eq g.met.K.Eq.laws

pub returns-clause-idle_size : goal.returns-clause-idle_size
returns-clause-idle_size g c = kinds.idle_parts_miss_size g.K.PartialEq.eq g.met.K.Eq.laws

pub returns-clause-tested : goal.returns-clause-tested
returns-clause-tested g c = tested_parts_miss g.K.PartialEq.eq g.met.K.Eq.laws

pub returns-clause-kept : goal.returns-clause-kept
returns-clause-kept g c = samples_keep_parts g.K.PartialEq.eq g.met.K.Eq.laws

pub returns-clause-joined : goal.returns-clause-joined
returns-clause-joined g c = join_is_of_both g.K.PartialEq.eq g.met.K.Eq.laws

pub returns-clause-associative : goal.returns-clause-associative
returns-clause-associative g c = joins_associate g.K.PartialEq.eq g.met.K.Eq.laws
