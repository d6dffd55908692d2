-- The sizes of the latest requests of keys, by the numbers of these, and the sums of blocks of eight. No public clause cites it.
use Rattle.std.specs.Prelude.{◌≡◌, ℕ, zero, suc, ◌+◌, ◌-◌, ◌*◌, ◌/◌, ◌<◌, ◌≤◌, if◌then◌else◌, List, [], ◌∷◌, length, slice_index, slice_set}
use Rattle.clru_curve.specs.declared.numbered.Numbered.{Numbered}
use Rattle.clru_curve.specs.Rising.{has_value, numbered, number_at, value_at, IsRising}
use Rattle.clru_curve.specs.Tree.{up_by, up_to, IsCounted}

-- the sum of the sizes from the i-th on
abbrev pub sizes_from : List Numbered → ℕ → ℕ
sizes_from [] i = 0
sizes_from (s ∷ ss) zero = s.value + sizes_from ss zero
sizes_from (s ∷ ss) (suc i) = sizes_from ss i

-- the sum of those of the requests from number t on
abbrev pub total_from : List Numbered → ℕ → ℕ
total_from [] t = 0
total_from (s ∷ ss) t = up_by s.value t s.number + total_from ss t

-- how many of these are not 0
abbrev pub live_from : List Numbered → ℕ → ℕ
live_from [] t = 0
live_from (s ∷ ss) t = (if has_value s then up_to t s.number else 0) + live_from ss t

-- the size of this request is not 0
abbrev pub IsLiveAt : List Numbered → ℕ → Type 0
IsLiveAt ss p = live_from ss p ≡ suc (live_from ss (suc p))

-- the size of this request became 0
pub record IsRemoved (ss : List Numbered) (request : ℕ) (left : List Numbered) : Type 0 where
  pub at : ℕ
  pub inside : at < length ss
  pub number : number_at ss at ≡ request
  pub some : 0 < value_at ss at
  pub is : left ≡ slice_set ss at (numbered (number_at ss at) 0)

-- the sum of the block that is not full
abbrev pub open_in : List Numbered → ℕ
open_in ss = sizes_from ss (8 * (length ss / 8))

-- and of the full ones from the j-th on
abbrev pub full_from : List Numbered → ℕ → ℕ
full_from ss j = sizes_from ss (8 * j) - open_in ss

-- the nodes above the full blocks; node 0, which is above none, has the sum of the block that is not full
pub record AreSums (ss : List Numbered) (nodes : List ℕ) : Type 0 where
  pub counted : IsCounted (full_from ss) nodes
  pub first : slice_index nodes 0 ≡ open_in ss

-- what holds of the sizes of n requests and of the nodes above their blocks
pub record IsSummed (ss : List Numbered) (nodes : List ℕ) (n : ℕ) : Type 0 where
  pub sums : AreSums ss nodes
  pub covers : length ss ≤ 8 * length nodes
  pub tight : 8 * length nodes ≤ length ss + 8
  pub rising : IsRising 0 ss n
