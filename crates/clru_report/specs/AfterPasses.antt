-- The curves of all lines and of the first ones. No public clause cites them.
use Rattle.std.specs.Prelude.{◌≡◌, ℕ, ◌<◌, ◌≤◌, Option, None, Some, List, length, reverse, take, bytes_eq}
use Rattle.clru_curve.specs.Curves.{HasMissesOf}
use Rattle.clru_model.specs.Requests.{distinct}
use Rattle.clru_text.specs.Lines.{lines_of}
use Rattle.clru_report.specs.After.{counted}
use Rattle.clru_report.specs.declared.text.Counts.{Counts}

-- the curve of the first n lines is there if others follow
abbrev pub IsHead : ℕ → List (List ℕ) → Option (List ℕ) → Type 0
IsHead n lines None = length lines ≤ n
IsHead n lines (Some head) = (n < length lines) × HasMissesOf bytes_eq (take n lines) head

-- the curve of these lines
pub record IsCurveOfLines (lines : List (List ℕ)) (curve : List ℕ) : Type 0 where
  pub misses : HasMissesOf bytes_eq lines curve
  pub distinct_keys : length curve ≡ distinct bytes_eq (reverse lines)

-- the curve of the lines of an input, and that of the first n of them, with the number of all and that of the bytes
pub record AreCurvesAround (n : ℕ) (input : List ℕ) (curve : List ℕ) (head : Option (List ℕ)) (requests bytes : ℕ) : Type 0 where
  pub whole : IsCurveOfLines (lines_of input) curve
  pub before : IsHead n (lines_of input) head
  pub all_counted : requests ≡ length (lines_of input)
  pub in_bytes : bytes ≡ length input

-- the numbers of a report of the lines behind the first n
pub record AreCountsBehind (n : ℕ) (input : List ℕ) (counts : Counts) : Type 0 where
  pub requests : counts.requests ≡ counted n (lines_of input)
  pub distinct_keys : counts.distinct ≡ distinct bytes_eq (reverse (lines_of input))
  pub in_bytes : counts.bytes ≡ length input
