-- Nodes above counts, of which each holds the sum of some. No public clause cites it.
use Rattle.std.specs.Prelude.{◌≡◌, ℕ, zero, suc, ◌+◌, ◌-◌, ◌<◌, ◌≤◌, List, length, slice_index, bit_and, bit_or}

-- a at the numbers up to i, and 0 at those above
abbrev pub up_by : ℕ → ℕ → ℕ → ℕ
up_by a zero i = a
up_by a (suc x) zero = 0
up_by a (suc x) (suc i) = up_by a x i

-- 1 at the numbers up to i, and 0 at those above
abbrev pub up_to : ℕ → ℕ → ℕ
up_to x i = up_by 1 x i

-- the node after those counts that node j sums
abbrev pub node_after : ℕ → ℕ
node_after j = suc (bit_or j (j - 1))

-- the greatest node before j that sums the count j
abbrev pub node_before : ℕ → ℕ
node_before j = bit_and j (j - 1)

-- a sum from one number on is no less than that from the next
abbrev pub Falls : (ℕ → ℕ) → Type 0
Falls f = (j : ℕ) → f (suc j) ≤ f j

-- where f sums from a count on, each node but node 0 sums the counts from its own up to the next one's
pub record IsCounted (f : ℕ → ℕ) (nodes : List ℕ) : Type 0 where
  pub node : (j : ℕ) → 0 < j → j < length nodes → slice_index nodes j + f (node_after j) ≡ f j
  pub none : (j : ℕ) → length nodes ≤ j → f j ≡ 0
