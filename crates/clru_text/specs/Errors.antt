-- What is printed of an error. Public clauses cite it.
use Rattle.std.specs.Prelude.{ℕ, List, codes}
use Rattle.clru_text.specs.declared.input.ReadError.{ReadError}
use Rattle.clru_text.specs.declared.input.ReadError.TheVariants.{Memory, Reading}

abbrev pub read_error_text : ReadError → List ℕ
read_error_text Memory = codes "out of memory"
read_error_text Reading = codes "a read failed"
