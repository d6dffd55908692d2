-- A set of positions as the bits of a tree of words. No public clause cites it.
use Rattle.std.specs.Prelude.{◌≡◌, ℕ, zero, suc, ◌+◌, ◌-◌, ◌*◌, ◌/◌, ◌%◌, ◌^◌, ◌<◌, ◌≤◌, ◌≢◌, List, length, min, slice_index}

-- bit j of a word
abbrev pub bit : ℕ → ℕ → ℕ
bit word j = word / 2 ^ j % 2

-- the first node of a level: the children of node n are 64 n + 1 to 64 n + 64
abbrev pub first_of : ℕ → ℕ
first_of zero = 0
first_of (suc level) = 64 * first_of level + 1

-- how often the position p is in a set whose bits are those of the leaves
abbrev pub times_in : ℕ → List ℕ → ℕ → ℕ
times_in leaves words p = bit (slice_index words (leaves + p / 64)) (p % 64)

-- what the bit of a node in the node above says: whether the node has a bit
abbrev pub said_above : List ℕ → ℕ → ℕ
said_above words n = bit (slice_index words ((n - 1) / 64)) ((n - 1) % 64)

-- whether it has one
abbrev pub has_one : List ℕ → ℕ → ℕ
has_one words n = min 1 (slice_index words n)

-- what is said of each node is so
abbrev pub IsSaid : ℕ → List ℕ → Type 0
IsSaid leaves words = (n : ℕ) → 0 < n → n ≤ 64 * leaves → said_above words n ≡ has_one words n

-- what is said of one alone is not
pub record IsSaidBut (leaves child : ℕ) (words : List ℕ) : Type 0 where
  pub others : (n : ℕ) → 0 < n → n ≤ 64 * leaves → n ≢ child → said_above words n ≡ has_one words n
  pub wrong : child ≤ 64 * leaves → said_above words child + has_one words child ≡ 1

-- what holds of every such tree
pub record IsTree (levels leaves : ℕ) (words : List ℕ) : Type 0 where
  pub begins : leaves ≡ first_of levels
  pub some : 0 < length words
  pub ends : length words ≤ 64 * leaves + 1
  pub few : length words ≤ leaves + 2 ^ 58
  pub small : leaves ≤ 2 ^ 59
  pub said : IsSaid leaves words
