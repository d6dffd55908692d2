-- Where the blocks of lent memory lie, and what is owned of them. Places are counts of bytes in the object that the memory is of.
use Rattle.std.specs.Prelude.{◌≡◌, ℕ, ◌+◌, ◌/◌, ◌^◌, ◌<◌, ◌≤◌, max, List}
use Rattle.std.specs.Int.{next_multiple_of}
use mir.Syntax.{Ty, w128, ty_int, ty_array}
use mir.Val.{Val}
use prog.Memory.{size}
use base.Fraction.{full_share}
use base.Fml.{Lft, Fml, ffalse, fsep, fex, fwand}
use denote.RattleType.{RattleType}
use denote.Memory.{cell_at}
use denote.RawPtr.{Ptr, block_ptr, null_ptr, room_for}
use denote.Sharing.{said}
use denote.Hidden.{guarded}

-- the memory that was lent: `size` bytes from `start` on
pub record Region : Type 0 where
  pub object : ℕ
  pub start : ℕ
  pub size : ℕ

-- n bytes from p on, the place `at` of the object, are a part of it
abbrev pub IsPiece : Region → Ptr → ℕ → ℕ → Type 0
IsPiece r p at n = (p ≡ block_ptr r.object at) × (r.start ≤ at) × (at + n ≤ r.start + r.size) × (r.size < 2 ^ 64)

-- the region is the n bytes from p on
abbrev pub IsRegionOf : Region → Ptr → ℕ → Type 0
IsRegionOf r p n = (p ≡ block_ptr r.object r.start) × (r.size ≡ n)

-- n bytes, as units of 16 that are aligned to 16
abbrev pub units_of : ℕ → Ty
units_of n = ty_array (ty_int w128) (n / 16)

-- they are free at p
abbrev pub bytes_at : Ptr → ℕ → Fml
bytes_at p n = room_for (units_of n) p

-- what a request of n bytes takes
abbrev pub taken_by : ℕ → ℕ
taken_by n = next_multiple_of (max n 16) 16

-- the n bytes from p on, the place `at`, are a block for a τ
abbrev pub IsBlockFor : Region → Ty → Ptr → ℕ → ℕ → Type 0
IsBlockFor r τ p at n = IsPiece r p at n × (taken_by (size τ) ≤ n) × (size τ < 2 ^ 63)

-- the right to give the block for a τ at p back: from room for a τ it makes the bytes of the block
abbrev pub block_token : Region → Ty → Ptr → Fml
block_token r τ p = fex (ℕ × ℕ) (λ s. fex (IsBlockFor r τ p s.0 s.1) (λ _. fwand (room_for τ p) (bytes_at p s.1)))

module _ (F : RattleType) (I : F.Denot → Fml) where
  -- fields of which I holds, in memory
  abbrev pub fields_with : ℕ → ℕ → Fml
  fields_with b o = fex (List Val) (λ vs. fsep (cell_at full_share F.mir vs b o) (fex F.Denot (λ i. fsep (F.own_val i vs) (I i))))

  -- they are reached with the thread's token, and I holds again afterwards
  abbrev pub behind_a_ref : Ptr → Lft → Fml
  behind_a_ref (block_ptr b o) = guarded (b, o) (fields_with b o)
  behind_a_ref null_ptr = said ffalse
