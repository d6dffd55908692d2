-- The refusals of a weighted put, and of a put whose closures may fail. Public clauses cite it.
use Rattle.std.specs.Prelude.{Result, Ok, Err, ⊤}
use Rattle.clru_model.specs.declared.error.PutError.{PutError}
use Rattle.clru_model.specs.declared.error.PutError.TheVariants.{TooHeavy, NoMemory}
use Rattle.clru_model.specs.declared.error.TryPutError.{TryPutError}
use Rattle.clru_model.specs.declared.error.TryPutError.TheVariants as try

module _ {K V : Type 0} where
  -- the pair that a refusal hands back
  abbrev pub pair_of : PutError K V → K × V
  pair_of (TooHeavy x v) = (x, v)
  pair_of (NoMemory x v) = (x, v)

  module _ {A : Type 0} where
    abbrev pub IsTooHeavy : Result A (PutError K V) → Type 0
    IsTooHeavy (Ok value) = ⊥
    IsTooHeavy (Err (TooHeavy x v)) = ⊤
    IsTooHeavy (Err (NoMemory x v)) = ⊥

    abbrev pub WantsMemory : Result A (PutError K V) → Type 0
    WantsMemory (Ok value) = ⊥
    WantsMemory (Err (TooHeavy x v)) = ⊥
    WantsMemory (Err (NoMemory x v)) = ⊤

module _ {K T E : Type 0} where
  -- P of the key and the data, where memory was refused
  abbrev pub IfNoMemory : TryPutError K T E → (K × T → Type 0) → Type 0
  IfNoMemory (try.NoMemory x t) P = P (x, t)
  IfNoMemory (try.Failed f) P = ⊤

  -- P where memory was refused, and Q of the error of a closure
  abbrev pub MatchTryPutError : TryPutError K T E → Type 0 → (E → Type 0) → Type 0
  MatchTryPutError (try.NoMemory x t) P Q = P
  MatchTryPutError (try.Failed f) P Q = Q f
