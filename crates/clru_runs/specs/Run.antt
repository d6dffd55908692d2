-- A run of the model. Public clauses cite it.
use Rattle.std.specs.Prelude.{◌≡◌, List, [], ◌∷◌}

-- a chain of steps, one for each call and its answer, each from the state that the one before left
abbrev pub Run : {State Call Answer : Type 0} → (State → Call → Answer → State → Type 0)
    → State → List Call → List Answer → State → Type 0
Run step old [] [] new = new ≡ old
Run {State} step old (call ∷ calls) (answer ∷ answers) new = (next : State)
    × step old call answer next × Run step next calls answers new
Run step old [] (answer ∷ answers) new = ⊥
Run step old (call ∷ calls) [] new = ⊥
