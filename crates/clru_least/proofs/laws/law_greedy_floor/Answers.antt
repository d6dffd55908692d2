use Rattle.clru_least.proofs.Greedy.{floor_is_greedy}
use Rattle.clru_least.proofs.laws.law_greedy_floor.Goals as goal

pub returns : goal.returns
returns g c = floor_is_greedy g.K.PartialEq.eq
