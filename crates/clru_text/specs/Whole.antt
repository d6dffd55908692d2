-- What a run that read its whole input says of the reader.
use Rattle.std.specs.Prelude.{ℕ, List, Option}
use Rattle.std.specs.Io.KnownBytes.{Consumes, IsAtEnd}

-- the reader went from `old` to `new` by giving an input of which P holds, and has no more
abbrev pub ReadWhole : Option (List ℕ) → Option (List ℕ) → (List ℕ → Type 0) → Type 0
ReadWhole old new P = (input : List ℕ) × Consumes old new input × IsAtEnd new × P input
