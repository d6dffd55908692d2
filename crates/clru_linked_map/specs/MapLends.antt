-- What a map ends as, once a reference to one of its values has ended. Public clauses cite it.
use Rattle.std.specs.Prelude.{ℕ, Bool, Option}
use Rattle.std.specs.Borrow.{Fml, RattleType, MutBor, Lends, LendsIf}
use Rattle.std.specs.HashMap.Lent.{HashMembers}
use Rattle.std.specs.Map.{set_value}
use Rattle.std.specs.declared.alloc.Allocator as alloc
use Rattle.std.specs.declared.hash.Hasher as hasher
use Rattle.std.specs.declared.hash.BuildHasher as builder
use Rattle.clru_model.specs.Entries.{with_value_at}
use Rattle.clru_linked_map.specs.LinkedMap.{LinkedMap, with_entries}
use Rattle.clru_linked_map.specs.contracts.map.LinkedHashMap.{the_row}

module _ (K V S A H : RattleType) (key : HashMembers K.Denot) (build : builder.Ghosts S.Denot H.Denot)
    (hash : hasher.Ghosts H.Denot) (heap : alloc.Ghosts A.Denot) where
  -- the map's type, as the logic holds it
  abbrev pub map_row : RattleType
  map_row = the_row K V S A H (record { eq = key.eq }) (record { hash_input = key.hash_input }) build hash heap

  module _ (m : MutBor (LinkedMap K.Denot V.Denot S.Denot)) where
    -- it has the last value written through r at the index i
    abbrev pub lends_at : ℕ → MutBor V.Denot → Fml
    lends_at i r = Lends map_row V m r (λ w. with_entries m.now (with_value_at i w m.now.entries))

    -- it has the last value written through r at the first key that passes, and at `None` it stays
    abbrev pub lends_value : (K.Denot → Bool) → Option (MutBor V.Denot) → Fml
    lends_value test r = LendsIf map_row V m r (λ w. with_entries m.now (set_value test m.now.entries w)) m.now
