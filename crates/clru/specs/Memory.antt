-- What a put leaves: when it may be refused for memory, and what becomes of the places. Public clauses cite it.
use Rattle.std.specs.Prelude.{◌≡◌, ℕ, ◌+◌, ◌<◌, ◌≤◌, Bool, List, length, None}
use Rattle.std.specs.Map.{lookup}
use Rattle.clru_model.specs.Entries.{size_of}
use Rattle.clru.specs.Cache.{Cache}

module _ {K V W : Type 0} where
  -- x is not held, no entry has to go, and each place is taken: only then may a put be refused for memory
  pub record NeedsMemory (eq : K → K → Bool) (c : Cache K V W) (x : K) (nothing_goes : Type 0) : Type 0 where
    pub absent : lookup (eq x) c.entries ≡ None
    pub room : nothing_goes
    pub taken : c.places ≡ length c.entries

  -- for a plain put of x
  abbrev pub NeedsPlace : (K → K → Bool) → Cache K V W → K → Type 0
  NeedsPlace eq c x = NeedsMemory eq c x (length c.entries < c.capacity)

  -- for a weighted put of x and v
  abbrev pub NeedsPlaceFor : (K → K → Bool) → (K → V → ℕ) → Cache K V W → K → V → Type 0
  NeedsPlaceFor eq weight c x v = NeedsMemory eq c x (size_of weight c.entries + (1 + weight x v) ≤ c.capacity)

  -- capacity and scale stay, and so do the places unless one is needed; they never fall, and a growth stays within the capacity
  pub record GrowsOnlyIf (needed : Type 0) (old new : Cache K V W) : Type 0 where
    pub capacity : new.capacity ≡ old.capacity
    pub scale : new.scale ≡ old.scale
    pub never_falls : old.places ≤ new.places
    pub stays : (needed → ⊥) → new.places ≡ old.places
    pub bounded : needed → new.places ≤ new.capacity
    pub covers : length new.entries ≤ new.places

  -- a put that went in, after which the entries are es
  pub record Accepts (needed : Type 0) (es : List (K × V)) (old new : Cache K V W) : Type 0 where
    pub entries : new.entries ≡ es
    pub places : GrowsOnlyIf needed old new

  -- a put that was refused for memory: the entries stay
  pub record RefusesForMemory (needed : Type 0) (old new : Cache K V W) : Type 0 where
    pub needs : needed
    pub entries : new.entries ≡ old.entries
    pub places : GrowsOnlyIf needed old new
