-- What a pass over lines with times has taken, and its curve. No public clause cites it.
use Rattle.std.specs.Prelude.{◌≡◌, ◌-◌, ℕ, nat_le, Bool, false, Option, List, length, reverse, bytes_eq}
use Rattle.std.specs.Map.{keys_of, lookup}
use Rattle.std.specs.Option.{option_map, option_map_or}
use Rattle.clru_curve.specs.IdlePasses.{HasIdleMissesOf}
use Rattle.clru_model.specs.Requests.{IsLatestOf, distinct}
use Rattle.clru_text.specs.Keys.{line_of, same_line}
use Rattle.clru_text.specs.Lines.{lines_of}
use Rattle.clru_text.specs.TakenRequests.{HasTakenRequests}
use Rattle.clru_text.specs.Times.{HaveTimes, kept_requests, requests_of}
use Rattle.clru_text.specs.declared.lines.OwnedKey.{OwnedKey}
use Rattle.clru_report.specs.declared.timed.line_pass.LatestLines.{LatestLines}
use Rattle.clru_report.specs.declared.timed.line_pass.Seen.{Seen}
use Rattle.clru_report.specs.declared.timed.line_pass.TimedLinePass.{TimedLinePass}

abbrev pub position_of : Option Seen → Option ℕ
position_of seen = option_map (λ s. s.position) seen

abbrev pub time_of : Option Seen → Option ℕ
time_of seen = option_map (λ s. s.time) seen

-- the latest request was at most this long ago
abbrev pub soon_of : ℕ → ℕ → Option Seen → Bool
soon_of limit time seen = option_map_or (λ before. nat_le (time - before) limit) (time_of seen) false

-- position and time of the latest request of the key among these, the latest first
pub record IsLatestAt {A : Type 0} (past : List (OwnedKey A × ℕ)) (key : OwnedKey A) (seen : Option Seen) : Type 0 where
  pub position : IsLatestOf same_line (keys_of past) key (position_of seen)
  pub timed : time_of seen ≡ lookup (same_line key) past

module _ {S A H : Type 0} where
  -- under the limit the table noted these requests: position and time of the latest one of each line
  pub record IsNoted (idle : ℕ) (past : List (OwnedKey A × ℕ)) (lines : LatestLines S A H) : Type 0 where
    pub each : (key : OwnedKey A) → IsLatestAt past key (lookup (bytes_eq (line_of key)) lines.latest)
    pub counted : lines.requests ≡ length past
    pub limit : lines.limit ≡ idle

  -- and the pass took them, where what it has taken is said in this way
  pub record IsTimedLinePass {P : Type 0} (Is : List (OwnedKey A × ℕ) → P → Type 0) (idle : ℕ) (past : List (OwnedKey A × ℕ))
      (pass : TimedLinePass P S A H) : Type 0 where
    pub noted : IsNoted idle past pass.lines
    pub taken : Is past pass.pass

-- of lines that begin with times it took those that a sample keeps
pub record HasTakenTimed {A P : Type 0} (Is : List (OwnedKey A × ℕ) → P → Type 0) (n : ℕ) (lines : List (List ℕ)) (pass : P) : Type 0 where
  pub timed : HaveTimes lines
  pub taken : HasTakenRequests Is (kept_requests n (requests_of lines)) pass

-- the curve of the lines of an input that a sample keeps, with the number of all lines and that of the bytes
pub record IsTimedCurveOf (n idle : ℕ) (input : List ℕ) (curve : List ℕ) (requests bytes : ℕ) : Type 0 where
  pub timed : HaveTimes (lines_of input)
  pub misses : HasIdleMissesOf bytes_eq idle (kept_requests n (requests_of (lines_of input))) curve
  pub distinct_keys : length curve ≡ distinct bytes_eq (reverse (keys_of (kept_requests n (requests_of (lines_of input)))))
  pub counted : requests ≡ length (lines_of input)
  pub in_bytes : bytes ≡ length input
