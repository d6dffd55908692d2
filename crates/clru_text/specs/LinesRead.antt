-- What it means that a buffer returns the lines of a reader one by one. Public clauses cite it.
use Rattle.std.specs.Prelude.{ℕ, ◌≡◌, ◌≤◌, ◌==◌, Bool, true, false, List, ◌++◌, length, Option, refl}
use Rattle.std.specs.Coded.{Coded, code_by, coded×, coded_bool, coded_list, coded_ℕ}
use Rattle.std.specs.Io.KnownBytes.{Consumes}
use Rattle.std.specs.List.{position_or_len}
use Rattle.clru_text.specs.Lines.{lines_of}
use Rattle.clru_text.specs.Whole.{ReadWhole}

-- what was read and not yet returned as a line, whether the end was met, and how many bytes were read
pub record Buffered : Type 0 where
  pub left : List ℕ
  pub ended : Bool
  pub read : ℕ

abbrev pub buffered : List ℕ → Bool → ℕ → Buffered
buffered bs e n = record { left = bs; ended = e; read = n }

abbrev pub buffered_code : Coded Buffered
buffered_code = code_by (List ℕ × (Bool × ℕ)) (coded× (coded_list coded_ℕ) (coded× coded_bool coded_ℕ))
    (λ a. (a.left, (a.ended, a.read))) (λ t. buffered t.0 t.1.0 t.1.1) (λ _. refl)

-- there is no newline in it
abbrev pub IsFree : List ℕ → Type 0
IsFree bytes = length bytes ≤ position_or_len (λ b. b == 10) bytes

-- the reader went from `start` to `now` by giving so many bytes: these lines, and then `rest`, of which no line is made yet
pub record HasBegun (start now : Option (List ℕ)) (read : ℕ) (rest : List ℕ) (lines : List (List ℕ)) : Type 0 where
  pub line_bytes : List ℕ
  pub bytes : Consumes start now (line_bytes ++ rest)
  pub count : read ≡ length (line_bytes ++ rest)
  pub cut : (more : List ℕ) → lines_of (line_bytes ++ more) ≡ lines ++ lines_of more
  pub few : length lines ≤ length line_bytes

-- the reader went from `start` to `now` by giving these lines, so many bytes, and has no more
abbrev pub HasRead : Option (List ℕ) → Option (List ℕ) → ℕ → List (List ℕ) → Type 0
HasRead start now read lines = ReadWhole start now (λ input. (lines_of input ≡ lines) × (read ≡ length input))

abbrev pub HasReturnedBy : Bool → Option (List ℕ) → Option (List ℕ) → Buffered → List (List ℕ) → Type 0
HasReturnedBy false start now a lines = HasBegun start now a.read a.left lines
HasReturnedBy true start now a lines = HasRead start now a.read lines

-- the buffer has returned these lines of what the reader gave from `start` to `now`
abbrev pub HasReturned : Option (List ℕ) → Option (List ℕ) → Buffered → List (List ℕ) → Type 0
HasReturned start now a lines = HasReturnedBy a.ended start now a lines
