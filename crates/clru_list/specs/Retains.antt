-- The closure calls of the retains. Public clauses cite it.
use Rattle.std.specs.Prelude.{◌≡◌, ℕ, Bool}
use Rattle.std.specs.Borrow.{Bor, MutBor}
use Rattle.std.specs.Fn.{Mut, Takes, Called}

module _ {F T : Type 0} (g : Mut F (ℕ × (Bor T × Unit {0})) Bool) where
  -- a call of f at the place and a `&` to v may return b, and leave f as f'. The item stays
  pub record CalledAtItem (f : F) (p : ℕ) (v : T) (b : Bool) (w : T) (f' : F) : Type 0 where
    pub shown : Bor T
    pub shows : shown.now ≡ v
    pub called : Called g f (p, (shown, tt)) b f'
    pub stays : w ≡ v

  -- f may be called at p and v
  abbrev pub TakesItem : F → ℕ → T → Type 0
  TakesItem f p v = (shown : Bor T) → shown.now ≡ v → Takes g f (p, (shown, tt))

module _ {F T : Type 0} (g : Mut F (ℕ × (MutBor T × Unit {0})) (Bool × (MutBor T × Unit {0}))) where
  -- a call of f at the place and a `&mut` to v may return b, and leave w there and f as f'
  pub record CalledAtItemMut (f : F) (p : ℕ) (v : T) (b : Bool) (w : T) (f' : F) : Type 0 where
    pub shown : MutBor T
    pub left : MutBor T
    pub shows : shown.now ≡ v
    pub called : Called g f (p, (shown, tt)) (b, (left, tt)) f'
    pub leaves : left.now ≡ w

  -- f may be called at p and v
  abbrev pub TakesItemMut : F → ℕ → T → Type 0
  TakesItemMut f p v = (shown : MutBor T) → shown.now ≡ v → Takes g f (p, (shown, tt))
