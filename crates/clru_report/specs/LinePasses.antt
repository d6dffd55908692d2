-- What a pass over lines by keys has taken. No public clause cites it.
use Rattle.std.specs.Prelude.{◌≡◌, ℕ, ◌<◌, Bool, Option, slice_index_or, List, length, map, reverse, bytes_eq}
use Rattle.std.specs.List.{slice_get}
use Rattle.std.specs.List.Sorted.{IsNonDecreasingBy, IsPermutation}
use Rattle.std.specs.Map.{keys_of, lookup}
use Rattle.clru_curve.specs.PositionPasses.{IsPositionPass}
use Rattle.clru_curve.specs.Seen.{timeless}
use Rattle.clru_least.specs.Reuses.{Reused}
use Rattle.clru_model.specs.Parts.{lasts}
use Rattle.clru_model.specs.Requests.{IsLatestOf}
use Rattle.clru_text.specs.Keys.{line_of, same_line}
use Rattle.clru_text.specs.declared.lines.OwnedKey.{OwnedKey}
use Rattle.clru_report.specs.Passes.{HasFloorPass, HasForesight}
use Rattle.clru_report.specs.declared.line_pass.Latest.{Latest}
use Rattle.clru_report.specs.declared.line_pass.LinePass.{LinePass}

module _ {S A H : Type 0} where
  -- the pass took these keys, the latest first, and notes where the latest request of each line was
  pub record IsLinePass (past : List (OwnedKey A)) (pass : LinePass S A H) : Type 0 where
    pub keys : keys_of pass.latest ≡ lasts bytes_eq (map line_of past)
    pub noted : (line : List ℕ) → IsLatestOf bytes_eq (map line_of past) line (lookup (bytes_eq line) pass.latest)
    pub taken : IsPositionPass same_line 0 (timeless past) pass.pass
    pub counted : pass.requests ≡ length past

  -- it took these lines
  pub record HasTakenLines (lines : List (List ℕ)) (pass : LinePass S A H) : Type 0 where
    pub past : List (OwnedKey A)
    pub shown : map line_of (reverse past) ≡ lines
    pub taken : IsLinePass past pass

  -- and so did what is asked for beside it
  pub record HasTakenFor (least floor : Bool) (lines : List (List ℕ)) (pass : LinePass S A H) (later : Option (List ℕ)) (reused : Option Reused) : Type 0 where
    pub past : List (OwnedKey A)
    pub shown : map line_of (reverse past) ≡ lines
    pub taken : IsLinePass past pass
    pub foreseen : HasForesight least past later
    pub floored : HasFloorPass (λ _. 0) floor past reused

-- the entries of a map, in the order of their values: each by its value, and by how many entries were inserted before it
pub record IsInOrder (entries : List (List ℕ × ℕ)) (order : List Latest) : Type 0 where
  pub sorted : List (List ℕ × ℕ)
  pub moved : IsPermutation entries sorted
  pub rising : IsNonDecreasingBy (λ e. e.1) sorted
  pub long : length order ≡ length sorted
  pub stands : (i : ℕ) (d : Latest) → i < length order → slice_get (reverse entries) (slice_index_or order i d).index ≡ slice_get sorted i
