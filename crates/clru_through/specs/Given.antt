-- The value that an answer stands for. Public clauses cite it.
use Rattle.std.specs.Prelude.{◌≡◌, Bool, true, false, ⊤, List, Option, Some, Result, Ok, Err}
use Rattle.std.specs.Borrow.{Bor}
use Rattle.std.specs.Map.{lookup}
use Rattle.clru_through.specs.declared.answer.Answer.{Answer}
use Rattle.clru_through.specs.declared.answer.Answer.TheVariants as lent
use Rattle.clru_through.specs.declared.answer.Loaded.{Loaded}
use Rattle.clru_through.specs.declared.answer.Loaded.TheVariants.{Held, Passed}

-- after a load of the key that passes the test: the held value, or the one that is passed on
abbrev pub loaded_value : {K V : Type 0} → (K → Bool) → List (K × V) → Loaded V → Option V
loaded_value test es (Held fetched) = lookup test es
loaded_value test es (Passed v) = Some v

-- the value was fetched by the load
abbrev pub was_fetched : {V : Type 0} → Loaded V → Bool
was_fetched (Held fetched) = fetched
was_fetched (Passed v) = true

-- the load put the value that it fetched
abbrev pub was_put : {V : Type 0} → Loaded V → Bool
was_put (Held fetched) = fetched
was_put (Passed v) = false

-- the same, where the load may have failed
abbrev pub has_put : {V E : Type 0} → Result (Loaded V) E → Bool
has_put (Ok loaded) = was_put loaded
has_put (Err e) = false

-- the value is held after the load
abbrev pub IsHeld : {V : Type 0} → Loaded V → Type 0
IsHeld (Held fetched) = ⊤
IsHeld (Passed v) = ⊥

-- the value, held or passed on
abbrev pub answer_value : {V : Type 0} → Answer V → V
answer_value (lent.Held v) = v.now
answer_value (lent.Passed v) = v.now

-- the answer stands for what the load gave, where `held` is what is held of the key after it
abbrev pub StandsFor : {V : Type 0} → Option V → Loaded V → Answer V → Type 0
StandsFor held (Held fetched) (lent.Held v) = held ≡ Some v.now
StandsFor held (Held fetched) (lent.Passed w) = ⊥
StandsFor held (Passed v) (lent.Held w) = ⊥
StandsFor held (Passed v) (lent.Passed w) = w.now ≡ v

-- the same, where the load may have failed
abbrev pub IsAnswerOf : {V E : Type 0} → Option V → Result (Loaded V) E → Result (Answer V) (Bor E) → Type 0
IsAnswerOf held (Ok loaded) (Ok answer) = StandsFor held loaded answer
IsAnswerOf held (Ok loaded) (Err e) = ⊥
IsAnswerOf held (Err d) (Ok answer) = ⊥
IsAnswerOf held (Err d) (Err e) = e.now ≡ d
