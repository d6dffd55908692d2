use Rattle.clru_runs.proofs.SizedPutRunning.{runs_hit_by_size}
use Rattle.clru_runs.proofs.laws.law_sized_put_runs.Goals as goal

pub returns : goal.returns
returns g c = runs_hit_by_size g.K.PartialEq.eq g.met.K.Eq.laws
