-- What the loop over the lines of a reader has handed on. Public clauses cite it.
use Rattle.std.specs.Prelude.{◌≡◌, ℕ, List, length}
use Rattle.clru_text.specs.Lines.{lines_of}

-- the lines of an input were all taken, and there are so many, and so many bytes
pub record IsReadBy {T : Type 0} (Since : List (List ℕ) → T → Type 0) (input : List ℕ) (taker : T) (requests bytes : ℕ) : Type 0 where
  pub taken : Since (lines_of input) taker
  pub counted : requests ≡ length (lines_of input)
  pub in_bytes : bytes ≡ length input
