-- The closure calls of `retain`. Those of `retain_mut` are in std's words on maps. Public clauses cite them.
use Rattle.std.specs.Prelude.{◌≡◌, Bool}
use Rattle.std.specs.Borrow.{Bor}
use Rattle.std.specs.Fn.{Mut, Takes, Called}

module _ {F K V : Type 0} (g : Mut F (Bor K × (Bor V × Unit {0})) Bool) where
  -- a call of f at a `&` to k and a `&` to v may return b, and leave f as f'. The value stays
  pub record CalledAtShownPair (f : F) (k : K) (v : V) (b : Bool) (w : V) (f' : F) : Type 0 where
    pub key : Bor K
    pub value : Bor V
    pub shows : (key.now ≡ k) × (value.now ≡ v)
    pub called : Called g f (key, (value, tt)) b f'
    pub stays : w ≡ v

  -- f may be called at k and v
  abbrev pub TakesShownPair : F → K → V → Type 0
  TakesShownPair f k v = (p : Bor K) (q : Bor V) → p.now ≡ k → q.now ≡ v → Takes g f (p, (q, tt))
