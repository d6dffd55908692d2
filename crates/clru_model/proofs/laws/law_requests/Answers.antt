use Rattle.clru_model.proofs.GetRuns.{gets_or_puts_are_puts}
use Rattle.clru_model.proofs.PutRuns.{drops_are_misses, held_before_marks, puts_compete, puts_compete_from_any_start}
use Rattle.clru_model.proofs.laws.law_requests.Goals as goal

pub returns-clause-hits : goal.returns-clause-hits
returns-clause-hits g c k requests later some = held_before_marks g.K.PartialEq.eq g.met.K.Eq.laws k some requests later

pub returns-clause-bound : goal.returns-clause-bound
returns-clause-bound g c k requests later some = puts_compete g.K.PartialEq.eq g.met.K.Eq.laws k some requests later

pub returns-clause-bound_any_start : goal.returns-clause-bound_any_start
returns-clause-bound_any_start g c k requests later some =
    puts_compete_from_any_start g.K.PartialEq.eq g.met.K.Eq.laws k some requests later

pub returns-clause-gets : goal.returns-clause-gets
returns-clause-gets g c = gets_or_puts_are_puts g.K.PartialEq.eq g.row.V.Denot g.met.K.Eq.laws

pub returns-clause-drops : goal.returns-clause-drops
returns-clause-drops g c k requests later left some run = drops_are_misses g.K.PartialEq.eq g.met.K.Eq.laws k some requests later run left
