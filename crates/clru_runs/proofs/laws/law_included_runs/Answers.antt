use Rattle.clru_runs.proofs.Included.{lesser_run_begins}
use Rattle.clru_runs.proofs.laws.law_included_runs.Goals as goal

pub returns : goal.returns
returns g c = record { included = lesser_run_begins g.K.PartialEq.eq }
