-- What a page knows of the parts of a log. Public clauses cite it.
use Rattle.std.specs.Prelude.{◌≡◌, ◌⊎◌, ℕ, ◌+◌, ◌^◌, ◌<◌, false, List, ◌++◌, length}
use Rattle.clru_report.specs.Parts.{AreKnown, IsCurveOfLog, IsPart, needs_only_curve}
use Rattle.clru_report.specs.Report.{IsReport}
use Rattle.clru_text.specs.Arguments.{GivesOptions}
use Rattle.clru_text.specs.CommandLine.{Reading}
use Rattle.clru_text.specs.declared.options.Options.{Options}
use Rattle.clru_web.specs.Answers.{IsTextOf}

-- the curve, the first requests or the latest ones of these lines are longer than the room for them
abbrev pub HasNoRoomForPart : List (List ℕ) → ℕ → ℕ → ℕ → Type 0
HasNoRoomForPart lines places first_room latest_room = (requests : ℕ) × (curve first latest : List ℕ) × IsPart lines requests curve first latest
    × ((places < length curve) ⊎ ((first_room < length first) ⊎ (latest_room < length latest)))

module _ (one_curve one_latest two_curve two_first two_latest : List ℕ) where
  -- curve and latest requests are those of any lines and a part behind them of which this is known
  abbrev pub AreJoined : List ℕ → List ℕ → Type 0
  AreJoined curve latest = (lines more : List (List ℕ)) (requests : ℕ) → AreKnown lines one_curve one_latest
      → IsPart more requests two_curve two_first two_latest → length lines + length more < 2 ^ 64 → AreKnown (lines ++ more) curve latest

  -- one of them is longer than the room for it
  abbrev pub HasNoRoomForJoined : ℕ → ℕ → Type 0
  HasNoRoomForJoined places room = (curve latest : List ℕ) × AreJoined curve latest × ((places < length curve) ⊎ (room < length latest))

module _ (requests bytes : ℕ) (curve : List ℕ) where
  -- the text is the report of any log that has so many lines and bytes and this curve
  abbrev pub IsReportOfCurve : {A : Type 0} → Options A → List ℕ → Type 0
  IsReportOfCurve options text = (log : List ℕ) → IsCurveOfLog log requests bytes curve → IsReport options log text

  -- it is what a reading of arguments asks for, of any such log
  abbrev pub IsTextOfCurve : Type 0 → Reading → List ℕ → Type 0
  IsTextOfCurve A reading text = (log : List ℕ) → IsCurveOfLog log requests bytes curve → IsTextOf A reading log text

-- a report is asked for that needs more than a curve
abbrev pub NeedsMoreThanCurve : Type 0 → Reading → Type 0
NeedsMoreThanCurve A reading = (options : Options A) × GivesOptions reading options × (needs_only_curve options ≡ false)
