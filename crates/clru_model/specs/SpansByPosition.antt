-- Spans said again by positions, counted from 0, in the words of a sentence about them. Public clauses cite them.
use Rattle.std.specs.Prelude.{◌≡◌, ◌↔◌, ℕ, ◌+◌, ◌<◌, Bool, true, false, nat_eq, Some, List, length, reverse}
use Rattle.std.specs.List.{slice_get, slice_range, sum_by, Contains, IsDistinct}
use Rattle.std.specs.Option.{option_map_or}
use Rattle.clru_model.specs.ByPosition.{IsFirstAt}
use Rattle.clru_model.specs.Sizes.{total, spans}

-- n is the sum of f over the positions that have the property: there is a list of pairwise different positions, which are those
-- and no others, and over it the sum is n
pub record IsSumOf (P : ℕ → Type 0) (f : ℕ → ℕ) (n : ℕ) : Type 0 where
  pub positions : List ℕ
  pub sum : sum_by f positions ≡ n
  pub different : IsDistinct nat_eq positions
  pub each : (p : ℕ) → Contains positions p ↔ P p

-- the size of the request at p
abbrev pub size_at : {K : Type 0} → (K → ℕ) → List K → ℕ → ℕ
size_at weight rs p = option_map_or (λ x. 1 + weight x) (slice_get rs p) 0

module _ {K : Type 0} (eq : K → K → Bool) where
  -- the request at i has the span n: its key was requested before, and n is its size and that of the distinct keys that were
  -- requested since the latest such request
  pub record IsSpanAt (weight : K → ℕ) (rs : List K) (i n : ℕ) : Type 0 where
    pub key : K
    pub requested : slice_get rs i ≡ Some key
    pub before : ℕ
    pub earlier : before < i
    pub key_before : K
    pub requested_before : slice_get rs before ≡ Some key_before
    pub same : eq key key_before ≡ true
    pub latest : (p : ℕ) (y : K) → before < p → p < i → slice_get rs p ≡ Some y → eq key y ≡ false
    -- the sizes of the requests strictly between that ask for a key that none of these before it asked for
    pub between : ℕ
    pub sizes_between : IsSumOf (IsFirstAt eq (slice_range rs (before + 1) i)) (size_at weight (slice_range rs (before + 1) i)) between
    pub span : n ≡ 1 + weight key + between

  -- the span at i is n exactly where the request at i has that span
  abbrev pub SpansAreByPosition : Type 0
  SpansAreByPosition = (weight : K → ℕ) (i n : ℕ) (requests : List K)
      → (slice_get (spans eq weight requests) i ≡ Some (Some n)) ↔ IsSpanAt weight requests i n

  -- there is a span, or none, for each request
  abbrev pub OneSpanForEach : Type 0
  OneSpanForEach = (weight : K → ℕ) (requests : List K) → length (spans eq weight requests) ≡ length requests

  -- `total`, which takes requests the latest first, sums the sizes at the positions at which a key stands first
  abbrev pub TotalSumsFirst : Type 0
  TotalSumsFirst = (weight : K → ℕ) (requests : List K)
      → IsSumOf (IsFirstAt eq requests) (size_at weight requests) (total eq weight (reverse requests))
