use Rattle.std.proofs.Common.{◌≡◌, not}
use Rattle.std.specs.List.{count_by}
use Rattle.clru_model.proofs.PutRuns.{held_before_marks, puts_compete, puts_compete_from_any_start}
use Rattle.clru_model.specs.Requests.{marks}
use Rattle.clru_model.specs.Runs.{held_before}
use Rattle.clru_model.specs.Schedule.{IsCompetitive, IsCompetitiveFromAnyStart}
use Rattle.clru_runs.proofs.PutRunning.{put_run, from_put_run}
use Rattle.clru_runs.proofs.laws.law_put_runs.Goals as goal

pub returns-clause-put_runs : goal.returns-clause-put_runs
returns-clause-put_runs g c = put_run g.K.PartialEq.eq g.met.K.Eq.laws

pub returns-clause-hits : goal.returns-clause-hits
returns-clause-hits g c requests old new calls answers run empty some puts =
    let eq = g.K.PartialEq.eq in let laws = g.met.K.Eq.laws in
    from_put_run eq laws requests old new calls answers run empty some puts
    (λ lists. held_before eq lists requests ≡ marks eq old.capacity requests)
    (held_before_marks eq laws old.capacity some requests)

pub returns-clause-bound : goal.returns-clause-bound
returns-clause-bound g c requests old new calls answers run empty some puts =
    let eq = g.K.PartialEq.eq in let laws = g.met.K.Eq.laws in
    from_put_run eq laws requests old new calls answers run empty some puts
    (λ lists. IsCompetitive eq old.capacity requests (count_by not (held_before eq lists requests)))
    (puts_compete eq laws old.capacity some requests)

pub returns-clause-bound_any_start : goal.returns-clause-bound_any_start
returns-clause-bound_any_start g c requests old new calls answers run empty some puts =
    let eq = g.K.PartialEq.eq in let laws = g.met.K.Eq.laws in
    from_put_run eq laws requests old new calls answers run empty some puts
    (λ lists. IsCompetitiveFromAnyStart eq old.capacity requests (count_by not (held_before eq lists requests)))
    (puts_compete_from_any_start eq laws old.capacity some requests)
