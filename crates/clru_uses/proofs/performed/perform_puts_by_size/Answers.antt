use Rattle.clru_runs.specs.Step.{Step}
use Rattle.clru_runs.proofs.Running.{Run-map}
use Rattle.clru_uses.proofs.performed.perform_puts_by_size.Goals as goal

pub returns-in-Ok : goal.returns-in-Ok
returns-in-Ok g c weight requests same puts =
    let scale_weight = g.W.WeightScale.weight in
    let run = Run-map _ (Step g.K.PartialEq.eq scale_weight) (λ old call answer new s. s.0) c.args.cache.now c.args.calls.items _ c.perform_all.new.cache c.in-Ok.ensures.run in
    (run, c.law_sized_put_runs.ensures scale_weight weight requests c.args.cache.now c.perform_all.new.cache c.args.calls.items c.in-Ok.answers.items run c.requires same puts)
