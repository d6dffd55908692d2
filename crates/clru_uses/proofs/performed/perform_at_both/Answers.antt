use Rattle.std.proofs.Common.{◌≡◌, List, subst}
use Rattle.clru_runs.specs.Run.{Run}
use Rattle.clru_runs.specs.Step.{Step}
use Rattle.clru_runs.specs.declared.call.Call.{Call}
use Rattle.clru_runs.proofs.Running.{Run-map}
use Rattle.clru_uses.proofs.performed.perform_at_both.Goals as goal

pub returns : goal.returns
returns g c =
    let step = Step g.K.PartialEq.eq g.W.WeightScale.weight in
    let first = Run-map _ step (λ old call answer new s. s.0) c.args.lesser.now c.args.calls.items _ c.perform_all.new.cache c.in-Ok.ensures.run in
    let second = Run-map _ step (λ old call answer new s. s.0) c.args.greater.now c.args.same_calls.items _ c.perform_all-2.new.cache c.in-Ok-perform_all.ensures.run in
    let other : c.args.same_calls.items ≡ c.args.calls.items → Run step c.args.greater.now c.args.calls.items c.in-Ok-perform_all.greater.items c.perform_all-2.new.cache =
    λ same. subst (λ (calls : List (Call g.row.K.Denot g.row.V.Denot)). Run step c.args.greater.now calls c.in-Ok-perform_all.greater.items c.perform_all-2.new.cache)
    same second in
    record {
      included = λ same less. c.law_included_runs.ensures.included g.W.WeightScale.weight c.args.calls.items
          c.in-Ok.lesser.items c.in-Ok-perform_all.greater.items c.args.lesser.now
          c.args.greater.now c.perform_all.new.cache c.perform_all-2.new.cache first (other same) c.requires.empty.0 c.requires.empty.1 c.requires.scale less;
    }
