use Rattle.clru_runs.specs.Step.{PlainStep}
use Rattle.clru_runs.proofs.Running.{Run-map}
use Rattle.clru_uses.proofs.performed.perform_puts.Goals as goal

pub returns-in-Ok-clause-hits : goal.returns-in-Ok-clause-hits
returns-in-Ok-clause-hits g c requests puts =
    let run = Run-map _ (PlainStep g.K.PartialEq.eq) (λ old call answer new s. s.0) c.args.cache.now c.args.calls.items _ c.perform_all.new.cache c.in-Ok.ensures.run in
    (run, c.law_put_runs.ensures.hits requests c.args.cache.now c.perform_all.new.cache c.args.calls.items c.in-Ok.answers.items run c.requires c.len.ensures.valid.some puts)

pub returns-in-Ok-clause-bound : goal.returns-in-Ok-clause-bound
returns-in-Ok-clause-bound g c requests puts =
    let run = Run-map _ (PlainStep g.K.PartialEq.eq) (λ old call answer new s. s.0) c.args.cache.now c.args.calls.items _ c.perform_all.new.cache c.in-Ok.ensures.run in
    (run, c.law_put_runs.ensures.bound requests c.args.cache.now c.perform_all.new.cache c.args.calls.items c.in-Ok.answers.items run c.requires c.len.ensures.valid.some puts)
