-- What is known of the lines of a part of a log. Public clauses cite it.
use Rattle.std.specs.Prelude.{◌≡◌, ℕ, ◌&&◌, Bool, true, false, not, List, [], ◌∷◌, ◌++◌, length, reverse, bytes_eq}
use Rattle.std.specs.List.{AllByRecursion}
use Rattle.std.specs.Option.{is_some}
use Rattle.clru_curve.specs.Curves.{HasMissesOf}
use Rattle.clru_model.specs.Parts.{firsts, lasts}
use Rattle.clru_model.specs.Requests.{distinct}
use Rattle.clru_text.specs.Lines.{lines_of}
use Rattle.clru_text.specs.LinesRead.{IsFree}
use Rattle.clru_text.specs.Texts.{bytes_of}
use Rattle.clru_text.specs.declared.options.Options.{Options}
use Rattle.clru_text.specs.declared.options.Sample.{Sample}
use Rattle.clru_text.specs.declared.options.Sample.TheVariants.{Whole, OneIn, Taken}
use Rattle.clru_report.specs.Passes.{wants_floor, wants_least}

-- the curve has the misses of these lines, and a place for each distinct one
pub record HasCurve (lines : List (List ℕ)) (curve : List ℕ) : Type 0 where
  pub misses : HasMissesOf bytes_eq lines curve
  pub distinct_lines : length curve ≡ distinct bytes_eq (reverse lines)

-- the curve of these lines, none of which has a newline, and the latest request for each distinct one
pub record AreKnown (lines : List (List ℕ)) (curve latest : List ℕ) : Type 0 where
  pub free : AllByRecursion IsFree lines
  pub missed : HasCurve lines curve
  pub latest_lines : latest ≡ bytes_of (lasts bytes_eq lines)

-- and also how many there are, and the first request for each distinct one
pub record IsPart (lines : List (List ℕ)) (requests : ℕ) (curve first latest : List ℕ) : Type 0 where
  pub known : AreKnown lines curve latest
  pub counted : requests ≡ length lines
  pub first_lines : first ≡ bytes_of (firsts bytes_eq lines)

-- how many lines and bytes a log has, and its curve
pub record IsCurveOfLog (log : List ℕ) (requests bytes : ℕ) (curve : List ℕ) : Type 0 where
  pub counted : requests ≡ length (lines_of log)
  pub in_bytes : bytes ≡ length log
  pub missed : HasCurve (lines_of log) curve

-- the lines of a log that is cut behind a newline are those of one part, and then those of the other
abbrev pub CutsBetweenLines : Type 0
CutsBetweenLines = (one two : List ℕ) → lines_of ((one ++ 10 ∷ []) ++ two) ≡ lines_of (one ++ 10 ∷ []) ++ lines_of two

abbrev pub is_whole : Sample → Bool
is_whole Whole = true
is_whole (OneIn n) = false
is_whole (Taken n m) = false

-- the curve of all lines by keys is all that a report by these options needs
abbrev pub needs_only_curve : {A : Type 0} → Options A → Bool
needs_only_curve options = not (is_some options.times) && (not (is_some options.after) && (not options.sizes && (is_whole options.sample
    && (not (wants_least options) && not (wants_floor options)))))
