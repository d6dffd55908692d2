-- What a pass over lines with times and sizes has taken, and its curve. No public clause cites it.
use Rattle.std.specs.Prelude.{◌≡◌, ℕ, None, List, length, bytes_eq}
use Rattle.clru_curve.specs.SizedCurves.{CurveBySize}
use Rattle.clru_curve.specs.SizedIdlePasses.{IsSizedIdleCurveOf}
use Rattle.clru_text.specs.Sizes.{HaveSizes, weight_of_line}
use Rattle.clru_text.specs.Times.{HaveTimes, kept_requests, requests_of, rests_of}
use Rattle.clru_text.specs.declared.lines.OwnedKey.{OwnedKey}
use Rattle.clru_report.specs.LineFaults.{fault_from}
use Rattle.clru_report.specs.SizedLines.{AddUpTo}
use Rattle.clru_report.specs.Sizes.{size_of_lines}
use Rattle.clru_report.specs.TimedPasses.{HasTakenTimed}

-- of lines that begin with times, and then with sizes of so much together, it took those that a sample keeps; they have no fault
pub record HasTakenSizedTimed {A P : Type 0} (Is : List (OwnedKey A × ℕ) → P → Type 0) (n : ℕ) (lines : List (List ℕ)) (size : ℕ)
    (pass : P) : Type 0 where
  pub timed : HasTakenTimed Is n lines pass
  pub added : AddUpTo (rests_of lines) size

-- the curve of those of these lines that a sample keeps, with the number of all lines and their size
pub record IsSizedTimedCurveOf (n idle : ℕ) (lines : List (List ℕ)) (curve : CurveBySize) (requests size : ℕ) : Type 0 where
  pub timed : HaveTimes lines
  pub sizes : HaveSizes (rests_of lines)
  pub no_fault : fault_from 1 0 (rests_of lines) ≡ None
  pub of_kept : IsSizedIdleCurveOf bytes_eq weight_of_line idle (kept_requests n (requests_of lines)) curve
  pub counted : requests ≡ length lines
  pub summed : size ≡ size_of_lines (rests_of lines)
