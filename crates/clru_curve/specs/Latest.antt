-- Which requests are the latest of their keys: bits in blocks of 64, and the numbers of bits above blocks.
use Rattle.std.specs.Prelude.{◌≡◌, ℕ, zero, suc, ◌+◌, ◌-◌, ◌*◌, ◌/◌, ◌%◌, ◌^◌, ◌<◌, ◌≤◌, List, [], ◌∷◌, length, count_ones}
use Rattle.clru_curve.specs.declared.numbered.Numbered.{Numbered}
use Rattle.clru_curve.specs.Rising.{value_at, EndsAt, IsRising}
use Rattle.clru_curve.specs.Tree.{IsCounted}

-- the ones of the blocks from the i-th on
abbrev pub blocks_from : List Numbered → ℕ → ℕ
blocks_from [] i = 0
blocks_from (b ∷ bs) zero = count_ones b.value + blocks_from bs zero
blocks_from (b ∷ bs) (suc i) = blocks_from bs i

-- the ones from bit p on
abbrev pub ones_from : List Numbered → ℕ → ℕ
ones_from [] p = 0
ones_from (b ∷ bs) p = count_ones (b.value / 2 ^ (p - 64 * b.number)) + ones_from bs p

-- what holds of the bits of n requests
pub record IsLatest (blocks : List Numbered) (nodes : List ℕ) (n : ℕ) : Type 0 where
  pub counted : IsCounted (blocks_from blocks) nodes
  pub same_length : length nodes ≡ length blocks
  pub rising : IsRising 0 blocks (suc (n / 64))
  pub current : 0 < n % 64 → EndsAt blocks (n / 64)
  pub none : ones_from blocks n ≡ 0
  pub few : blocks_from blocks 0 ≤ n
  pub fits : (i : ℕ) → value_at blocks i < 2 ^ 64
