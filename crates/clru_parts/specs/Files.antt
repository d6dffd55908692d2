-- The text of a part of a log. Public clauses cite it.
use Rattle.std.specs.Prelude.{ℕ, ◌<◌, ◌^◌, List, [], ◌∷◌, ◌++◌, ◌==◌, Bool, ◌&&◌, codes, decimal, flat_map, length, nat_lt, slice_index}
use Rattle.std.specs.List.{AllByRecursion}
use Rattle.clru_text.specs.Samples.{fnv}
use Rattle.clru_parts.specs.declared.part.Counts.{Counts}
use Rattle.clru_parts.specs.declared.part.Part.{Part}

-- what a part's text says: what was counted, the first and the latest request for each distinct line, as lines with their newlines,
-- and the misses at each capacity from 1 on
pub record PartFile : Type 0 where
  pub counts : Counts
  pub first : List ℕ
  pub latest : List ℕ
  pub curve : List ℕ

abbrev pub file_of : {A : Type 0} → Part A → PartFile
file_of part = record { counts = part.counts; first = part.firsts.items; latest = part.lasts.items; curve = part.curve.items }

-- a number, alone in its line
abbrev pub number_line : ℕ → List ℕ
number_line n = decimal n ++ 10 ∷ []

-- a word of digits that `decimal` doesn't write
abbrev pub has_leading_zero : List ℕ → Bool
has_leading_zero word = nat_lt 1 (length word) && (slice_index word 0 == 48)

-- how many bytes follow, and these
abbrev pub block_text : List ℕ → List ℕ
block_text bytes = number_line (length bytes) ++ bytes

unfoldable pub head_text : List ℕ
head_text = codes "clru_mrc part 1\nkeys, one in "

-- the version, what was counted, how many requests and bytes
abbrev pub counts_text : Counts → List ℕ
counts_text counts = head_text ++ (number_line counts.one_in
    ++ (number_line counts.requests ++ number_line counts.bytes))

-- these, then blocks of the first requests, the latest ones, and a line of the misses at each capacity
abbrev pub body_text : PartFile → List ℕ
body_text file = counts_text file.counts ++ (block_text file.first ++ (block_text file.latest
    ++ block_text (flat_map number_line file.curve)))

-- and last a checksum of all that
abbrev pub part_text : PartFile → List ℕ
part_text file = body_text file ++ number_line (fnv (body_text file))

-- a number of 64 bits
abbrev pub Fits : ℕ → Type 0
Fits n = n < 2 ^ 64

pub record AreCounts (counts : Counts) : Type 0 where
  pub one_in : Fits counts.one_in
  pub requests : Fits counts.requests
  pub bytes : Fits counts.bytes

-- each number has 64 bits
pub record IsFile (file : PartFile) : Type 0 where
  pub counted : AreCounts file.counts
  pub missed : AllByRecursion Fits file.curve
