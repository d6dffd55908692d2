-- How a list grows, and why a push is refused. Public clauses cite it.
use Rattle.std.specs.Prelude.{◌≡◌, ◌≤◌, length}
use Rattle.clru_list.specs.PlaceList.{PlaceList, NeedsPlace}
use Rattle.clru_list.specs.declared.error.PushError.{PushError}
use Rattle.clru_list.specs.declared.error.PushError.TheVariants.{Full, NoMemory}

module _ {T : Type 0} where
  -- the capacity stays, and so do the places unless one is needed; they never fall, and a growth stays within the capacity
  pub record GrowsIfNeeded (old new : PlaceList T) : Type 0 where
    pub capacity : new.capacity ≡ old.capacity
    pub never_falls : old.places ≤ new.places
    pub stays : (NeedsPlace old → ⊥) → new.places ≡ old.places
    pub bounded : NeedsPlace old → new.places ≤ new.capacity

  -- the item comes back: a list at its capacity is full, and any other wants memory
  abbrev pub Refuses : PlaceList T → T → PushError T → Type 0
  Refuses l x (Full y) = (y ≡ x) × (length l.entries ≡ l.capacity)
  Refuses l x (NoMemory y) = (y ≡ x) × NeedsPlace l
