-- What is printed of a refused weighted put, and of a put whose closures may fail. Public clauses cite it.
use Rattle.std.specs.Prelude.{ℕ, List, codes}
use Rattle.clru_model.specs.declared.error.PutError.{PutError}
use Rattle.clru_model.specs.declared.error.PutError.TheVariants.{TooHeavy, NoMemory}
use Rattle.clru_model.specs.declared.error.TryPutError.{TryPutError}
use Rattle.clru_model.specs.declared.error.TryPutError.TheVariants as try

module _ {K V : Type 0} where
  -- by `{}`
  abbrev pub put_error_text : PutError K V → List ℕ
  put_error_text (TooHeavy x v) = codes "the pair is too heavy for the cache"
  put_error_text (NoMemory x v) = codes "out of memory"

  -- by `{:?}`
  abbrev pub put_error_debug : PutError K V → List ℕ
  put_error_debug (TooHeavy x v) = codes "TooHeavy(..)"
  put_error_debug (NoMemory x v) = codes "NoMemory(..)"

module _ {K T E : Type 0} where
  -- by `{}`
  abbrev pub try_put_error_text : TryPutError K T E → List ℕ
  try_put_error_text (try.NoMemory x t) = codes "out of memory"
  try_put_error_text (try.Failed f) = codes "the closure failed"

  -- by `{:?}`
  abbrev pub try_put_error_debug : TryPutError K T E → List ℕ
  try_put_error_debug (try.NoMemory x t) = codes "NoMemory(..)"
  try_put_error_debug (try.Failed f) = codes "Failed(..)"
