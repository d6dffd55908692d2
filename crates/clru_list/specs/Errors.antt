-- What is printed of a refused push. Public clauses cite it.
use Rattle.std.specs.Prelude.{ℕ, List, codes}
use Rattle.clru_list.specs.declared.error.PushError.{PushError}
use Rattle.clru_list.specs.declared.error.PushError.TheVariants.{Full, NoMemory}

module _ {T : Type 0} where
  -- by `{}`
  abbrev pub push_error_text : PushError T → List ℕ
  push_error_text (Full x) = codes "the list is full"
  push_error_text (NoMemory x) = codes "out of memory"

  -- by `{:?}`
  abbrev pub push_error_debug : PushError T → List ℕ
  push_error_debug (Full x) = codes "Full(..)"
  push_error_debug (NoMemory x) = codes "NoMemory(..)"
