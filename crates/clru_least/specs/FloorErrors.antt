-- What refusals print. Public clauses cite it.
use Rattle.std.specs.Prelude.{List, ℕ, codes}
use Rattle.clru_least.specs.declared.floor_error.FloorRequestError.{FloorRequestError}
use Rattle.clru_least.specs.declared.floor_error.FloorRequestError.TheVariants.{NoMemory, TooLarge}

abbrev pub floor_request_error_text : FloorRequestError → List ℕ
floor_request_error_text NoMemory = codes "out of memory"
floor_request_error_text TooLarge = codes "the sizes of the requests are too large for a number"
