-- The closure calls of put-or-modify. Public clauses cite them.
use Rattle.std.specs.Prelude.{◌≡◌, Option, Some, None, Result, Ok, Err, List}
use Rattle.std.specs.Borrow.{Bor, MutBor}
use Rattle.std.specs.Fn.{Mut, Takes, Called}

-- the put operation: it makes a value of a new key and the data
module _ {P K T R : Type 0} (g : Mut P (Bor K × (T × Unit {0})) R) (put : P) where
  -- it may be called at the key x and the data t
  abbrev pub TakesKey : K → T → Type 0
  TakesKey x t = (shown : Bor K) → shown.now ≡ x → Takes g put (shown, (t, tt))

  -- one call at them may give v, and leave the operation as put'
  pub record CallsAtKey (x : K) (t : T) (v : R) (put' : P) : Type 0 where
    pub shown : Bor K
    pub shows : shown.now ≡ x
    pub called : Called g put (shown, (t, tt)) v put'

-- the modify operation: it writes to the value of a held key
module _ {M K V T R : Type 0} (g : Mut M (Bor K × (MutBor V × (T × Unit {0}))) (R × (MutBor V × Unit {0})))
    (modify : M) where
  -- it may be called at the stored key k, its value v and the data t
  abbrev pub TakesEntry : K → V → T → Type 0
  TakesEntry k v t = (shown : Bor K) (lent : MutBor V) → shown.now ≡ k → lent.now ≡ v
      → Takes g modify (shown, (lent, (t, tt)))

  -- one call at them may give r, and leave the value w and the operation as modify'
  pub record CallsAtEntry (k : K) (v : V) (t : T) (r : R) (w : V) (modify' : M) : Type 0 where
    pub shown : Bor K
    pub lent : MutBor V
    pub left : MutBor V
    pub shows : shown.now ≡ k
    pub lends : lent.now ≡ v
    pub called : Called g modify (shown, (lent, (t, tt))) (r, (left, tt)) modify'
    pub leaves : left.now ≡ w

-- exactly one of the two is called, once: the put operation where the key is absent, the modify operation at the stored
-- pair where it is held
module _ {P M K V T : Type 0} (p : Mut P (Bor K × (T × Unit {0})) V)
    (m : Mut M (Bor K × (MutBor V × (T × Unit {0}))) (Unit {0} × (MutBor V × Unit {0}))) where
  abbrev pub PutsOrModifies : Option (K × V) → P → M → K → T → V → Type 0
  PutsOrModifies None put modify x t v = (put' : P) × CallsAtKey p put x t v put'
  PutsOrModifies (Some e) put modify x t v = (modify' : M) × CallsAtEntry m modify e.0 e.1 t tt v modify'

-- the same for operations that may fail, where the one that is called succeeds or answers an error
module _ {P M K V T E : Type 0} (p : Mut P (Bor K × (T × Unit {0})) (Result V E))
    (m : Mut M (Bor K × (MutBor V × (T × Unit {0}))) (Result (Unit {0}) E × (MutBor V × Unit {0}))) where
  abbrev pub TryPutsOrModifies : Option (K × V) → P → M → K → T → V → Type 0
  TryPutsOrModifies None put modify x t v = (put' : P) × CallsAtKey p put x t (Ok v) put'
  TryPutsOrModifies (Some e) put modify x t v = (modify' : M) × CallsAtEntry m modify e.0 e.1 t (Ok tt) v modify'

  -- it answers the error f: the entries stay where that is the put operation, and else have what the modify operation wrote
  abbrev pub FailsToPutOrModify : Option (K × V) → P → M → K → T → E
      → (before : List (K × V)) → (V → List (K × V)) → (after : List (K × V)) → Type 0
  FailsToPutOrModify None put modify x t f before written after =
      ((put' : P) × CallsAtKey p put x t (Err f) put') × (after ≡ before)
  FailsToPutOrModify (Some e) put modify x t f before written after =
      (v : V) × (modify' : M) × CallsAtEntry m modify e.0 e.1 t (Err f) v modify' × (after ≡ written v)
