-- What a part says of its log. Public clauses cite it.
use Rattle.std.specs.Prelude.{◌≡◌, ℕ, ◌+◌, ◌<◌, ◌^◌, ◌==◌, ◌&&◌, Bool, Option, None, Some, List, cond, length, nat_lt}
use Rattle.clru_joins.specs.declared.error.JoinError.{JoinError}
use Rattle.clru_parts.specs.Files.{PartFile, file_of}
use Rattle.clru_parts.specs.declared.part.Counts.{Counts}
use Rattle.clru_parts.specs.declared.part.Part.{Part}
use Rattle.clru_report.specs.Parts.{IsPart}
use Rattle.clru_text.specs.Lines.{lines_of}

-- a part's text is of all lines of the log
pub record IsFileOf (log : List ℕ) (file : PartFile) : Type 0 where
  pub whole : file.counts.one_in ≡ 1
  pub in_bytes : file.counts.bytes ≡ length log
  pub known : IsPart (lines_of log) file.counts.requests file.curve file.first file.latest

-- the part is of all lines of the log
abbrev pub IsPartOf : {A : Type 0} → List ℕ → Part A → Type 0
IsPartOf log part = IsFileOf log (file_of part)

-- all keys were counted, not a sample of them
abbrev pub is_whole : Counts → Bool
is_whole counts = counts.one_in == 1

-- a number of 64 bits
abbrev pub is_few : ℕ → Bool
is_few n = nat_lt n (2 ^ 64)

-- why parts are not joined, however much memory there is
abbrev pub refusal_of : Counts → Counts → Option JoinError
refusal_of one two = cond (is_whole one && is_whole two)
    (cond (is_few (one.requests + two.requests) && is_few (one.bytes + two.bytes)) None (Some JoinError.TooMany))
    (Some JoinError.Sampled)

-- the counts of two logs, one behind the other
pub record AreCountsOfBoth (one two both : Counts) : Type 0 where
  pub whole : both.one_in ≡ 1
  pub requests : both.requests ≡ one.requests + two.requests
  pub bytes : both.bytes ≡ one.bytes + two.bytes
  pub few : both.requests < 2 ^ 64
