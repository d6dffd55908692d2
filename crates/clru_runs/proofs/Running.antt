-- Runs, from their ends.
use Rattle.std.proofs.Common.{List, [], ◌∷◌, ◌++◌, refl, subst}
use Rattle.clru_runs.specs.Run.{Run}

module _ {State Call Answer : Type 0} (step : State → Call → Answer → State → Type 0) where
  -- one more step
  pub Run-push : (old : State) (calls : List Call) (answers : List Answer) {mid new : State} (call : Call) (answer : Answer)
      → Run step old calls answers mid → step mid call answer new → Run step old (calls ++ call ∷ []) (answers ++ answer ∷ []) new
  Run-push old [] [] {mid} {new} call answer run last = (new, subst (λ s. step s call answer new) run last, refl)
  Run-push old (c ∷ calls) (a ∷ answers) call answer run last = (run.0, run.1, Run-push run.0 calls answers call answer run.2 last)
  Run-push old [] (a ∷ answers) call answer run last = absurd run
  Run-push old (c ∷ calls) [] call answer run last = absurd run

-- a chain of steps that each say more is a chain of the steps that say less
pub Run-map : {State Call Answer : Type 0} (step weaker : State → Call → Answer → State → Type 0)
    → ((old : State) (call : Call) (answer : Answer) (new : State) → step old call answer new → weaker old call answer new)
    → (old : State) (calls : List Call) (answers : List Answer) (new : State) → Run step old calls answers new → Run weaker old calls answers new
Run-map step weaker less old [] [] new run = run
Run-map step weaker less old (c ∷ calls) (a ∷ answers) new run =
    (run.0, less old c a run.0 run.1, Run-map step weaker less run.0 calls answers new run.2)
Run-map step weaker less old [] (a ∷ answers) new run = absurd run
Run-map step weaker less old (c ∷ calls) [] new run = absurd run
