-- One get of a store, as a step from the old store to the new one. Public clauses cite it.
use Rattle.std.specs.Prelude.{ℕ, Bool, Result}
use Rattle.std.specs.Borrow.{Bor}
use Rattle.std.specs.Map.{lookup}
use Rattle.clru_through.specs.Given.{IsAnswerOf}
use Rattle.clru_through.specs.Steps.{Loads}
use Rattle.clru_through.specs.Store.{Store}
use Rattle.clru_through.specs.declared.answer.Answer.{Answer}
use Rattle.clru_through.specs.declared.answer.Loaded.{Loaded}

-- a load of x, and the result lends what it returns
abbrev pub IsGot : {K V W R E : Type 0} → (K → K → Bool) → (K → V → ℕ) → (R → K → Result V E → R → Type 0)
    → Store K V W R → K → Result (Answer V) (Bor E) → Store K V W R → Type 0
IsGot {V = V} {E = E} eq weight fetches old x result new = (loaded : Result (Loaded V) E)
    × Loads eq weight fetches old x loaded new × IsAnswerOf (lookup (eq x) new.cache.entries) loaded result
