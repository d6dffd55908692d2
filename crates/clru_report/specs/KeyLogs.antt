-- The requests of a log by the numbers of their keys, each with the greatest size it came with. No public clause cites it.
use Rattle.std.specs.Prelude.{◌≡◌, ℕ, ◌<◌, List, [], ◌++◌, length, map, decimal, Option, Some, slice_index, slice_index_or}
use Rattle.std.specs.List.{All, AllZip}
use Rattle.std.specs.Option.{option_map_or}
use Rattle.clru_text.specs.Keys.{line_of}
use Rattle.clru_text.specs.Sizes.{tail_of_line}
use Rattle.clru_report.specs.OneSize.{greatest_of_key}
use Rattle.clru_report.specs.declared.sized.key_log.KeyLog.{KeyLog}

module _ {A : Type 0} where
  -- what the keys are: the tails of their lines
  abbrev pub tails_of : KeyLog A → List (List ℕ)
  tails_of log = map line_of log.tails.items

  -- the line of a request for the key of this number
  abbrev pub line_at : KeyLog A → ℕ → List ℕ
  line_at log n = decimal (slice_index log.sizes.items n) ++ slice_index_or (tails_of log) n []

  -- the lines that the requests are
  abbrev pub lines_in : KeyLog A → List (List ℕ)
  lines_in log = map (line_at log) log.requests.items

  -- each request has a key, and each key a size
  pub record HasKeys (log : KeyLog A) : Type 0 where
    pub numbered : All (λ n. n < length log.tails.items) log.requests.items
    pub sized : length log.sizes.items ≡ length log.tails.items

-- the requests of these lines are told by the numbers of their keys, which are found by `find`. Each key has the greatest size so far
pub record HasNoted {K : Type 0} (tail_of : K → List ℕ) (lines : List (List ℕ)) (find : K → Option ℕ) (tails : List (List ℕ))
    (sizes requests : List ℕ) : Type 0 where
  pub sized : length sizes ≡ length tails
  pub found : (k : K) (n : ℕ) → find k ≡ Some n → (n < length tails) × (slice_index_or tails n [] ≡ tail_of k)
  pub own : (k : K) (n : ℕ) → n < length tails → slice_index_or tails n [] ≡ tail_of k → find k ≡ Some n
  pub greatest : (k : K) → option_map_or (slice_index sizes) (find k) 1 ≡ greatest_of_key lines (tail_of k)
  pub told : AllZip (λ n line. (n < length tails) × (slice_index_or tails n [] ≡ tail_of_line line)) requests lines
