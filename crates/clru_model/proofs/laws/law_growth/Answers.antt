use Rattle.clru_model.proofs.Growing.{marks_grow, misses_fall}
use Rattle.clru_model.proofs.laws.law_growth.Goals as goal

pub returns-clause-grows : goal.returns-clause-grows
returns-clause-grows g c k l i requests more = marks_grow g.K.PartialEq.eq more requests i

pub returns-clause-misses : goal.returns-clause-misses
returns-clause-misses g c k l requests more = misses_fall g.K.PartialEq.eq more requests
