-- What is printed of a request that was not taken. Public clauses cite it.
use Rattle.std.specs.Prelude.{ℕ, List, codes}
use Rattle.clru_curve.specs.declared.sized.error.SizedRequestError.{SizedRequestError}
use Rattle.clru_curve.specs.declared.sized.error.SizedRequestError.TheVariants.{NoMemory, TooLarge}

module _ {K : Type 0} where
  -- by `{}`
  abbrev pub sized_request_error_text : SizedRequestError K → List ℕ
  sized_request_error_text (NoMemory x) = codes "out of memory"
  sized_request_error_text (TooLarge x) = codes "the sizes of the requests are too large for a number"

  -- by `{:?}`
  abbrev pub sized_request_error_debug : SizedRequestError K → List ℕ
  sized_request_error_debug (NoMemory x) = codes "NoMemory(..)"
  sized_request_error_debug (TooLarge x) = codes "TooLarge(..)"
