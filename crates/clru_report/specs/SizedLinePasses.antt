-- What a pass over lines by size has taken. No public clause cites it.
use Rattle.std.specs.Prelude.{◌≡◌, Bool, Option, ℕ, List, length, map, reverse, bytes_eq}
use Rattle.std.specs.Map.{lookup}
use Rattle.clru_curve.specs.SizedPositionPasses.{IsSizedPositionPass}
use Rattle.clru_least.specs.Reuses.{Reused}
use Rattle.clru_model.specs.Requests.{IsLatestOf}
use Rattle.clru_text.specs.Keys.{line_of, same_line}
use Rattle.clru_text.specs.Samples.{kept_of}
use Rattle.clru_text.specs.Sizes.{HaveSizes, weight_of_line}
use Rattle.clru_text.specs.declared.lines.OwnedKey.{OwnedKey}
use Rattle.clru_curve.specs.Seen.{timeless}
use Rattle.clru_report.specs.Passes.{HasFloorPass, weight_of_key}
use Rattle.clru_report.specs.SizedLines.{AddUpTo}
use Rattle.clru_report.specs.declared.sized.line_pass.SizedLinePass.{SizedLinePass}

module _ {S A H : Type 0} where
  -- the pass took these keys, the latest first, and notes where the latest request of each line was
  pub record IsSizedLinePass (past : List (OwnedKey A)) (pass : SizedLinePass S A H) : Type 0 where
    pub noted : (line : List ℕ) → IsLatestOf bytes_eq (map line_of past) line (lookup (bytes_eq line) pass.latest)
    pub taken : IsSizedPositionPass same_line weight_of_key 0 (timeless past) pass.pass
    pub counted : pass.requests ≡ length past

  -- the pass took these lines, each of which has a size, and so did that for a floor if it is asked for
  pub record HasTaken (floor : Bool) (lines : List (List ℕ)) (pass : SizedLinePass S A H) (reused : Option Reused) : Type 0 where
    pub past : List (OwnedKey A)
    pub shown : map line_of (reverse past) ≡ lines
    pub sizes : HaveSizes lines
    pub taken : IsSizedLinePass past pass
    pub floored : HasFloorPass weight_of_line floor past reused

  -- of these lines, which have no fault, the passes took those that a sample keeps
  pub record HasTakenOf (floor : Bool) (n : ℕ) (lines : List (List ℕ)) (size : ℕ) (pass : SizedLinePass S A H) (reused : Option Reused) : Type 0 where
    pub added : AddUpTo lines size
    pub taken : HasTaken floor (kept_of n lines) pass reused
