-- What becomes of a cursor and of its cache, once a value that they lend is given back. Public clauses cite it.
use Rattle.std.specs.Prelude.{ℕ, Option, []}
use Rattle.std.specs.Borrow.{Fml, RattleType, MutBor, Lends, LendsIf}
use Rattle.std.specs.HashMap.Lent.{HashMembers}
use Rattle.std.specs.declared.alloc.Allocator as alloc
use Rattle.std.specs.declared.hash.Hasher as hasher
use Rattle.std.specs.declared.hash.BuildHasher as builder
use mir.Syntax.{named}
use Rattle.clru_model.specs.declared.weight.WeightScale as scale
use Rattle.clru_model.specs.declared.weight.ZeroWeightScale.{ZeroWeightScale}
use Rattle.clru_model.specs.contracts.weight.ZeroWeightScale.{the_row as zero_scale_row}
use Rattle.clru_model.specs.Entries.{with_value_at}
use Rattle.clru.specs.Cache.{Cache, with_entries}
use Rattle.clru.specs.Lends.{cache_row}
use Rattle.clru.specs.Walks.{stepped, stepped_back}
use Rattle.clru.specs.declared.cursor.CLruCacheIterMut.{CLruCacheIterMut}
use Rattle.clru.specs.contracts.cursor.CLruCacheIterMut.{the_row}

module _ (K V S A H : RattleType) (key : HashMembers K.Denot) (build : builder.Ghosts S.Denot H.Denot)
    (hash : hasher.Ghosts H.Denot) (heap : alloc.Ghosts A.Denot) where
  -- the cache has the last value written through r at the index i
  abbrev pub lends_at : scale.Ghosts ZeroWeightScale K.Denot V.Denot → MutBor (Cache K.Denot V.Denot ZeroWeightScale)
      → ℕ → MutBor V.Denot → Fml
  lends_at weighs c i r = Lends (cache_row K V S zero_scale_row A H key build hash weighs heap) V c r
      (λ w. with_entries c.now (with_value_at i w c.now.entries))

  -- the type of a cursor. Its lifetime is the second of the signature
  abbrev pub cursor_row : RattleType
  cursor_row = the_row (record { mir = named 1; lft = [] }) K V S A H
      (record { eq = key.eq }) (record { hash_input = key.hash_input }) build hash heap

  module _ (c : MutBor (CLruCacheIterMut K.Denot V.Denot S.Denot A.Denot H.Denot)) where
    -- the cursor is past the first entry that it had left, which has the last value written through r
    abbrev pub lends_next : MutBor V.Denot → Fml
    lends_next r = Lends cursor_row V c r (stepped c.now)

    -- the same for the last entry
    abbrev pub lends_next_back : MutBor V.Denot → Fml
    lends_next_back r = Lends cursor_row V c r (stepped_back c.now)

    -- the same where r is a value, and at `None` it stays
    abbrev pub lends_next_if : Option (MutBor V.Denot) → Fml
    lends_next_if r = LendsIf cursor_row V c r (stepped c.now) c.now

    -- and for the last entry
    abbrev pub lends_next_back_if : Option (MutBor V.Denot) → Fml
    lends_next_back_if r = LendsIf cursor_row V c r (stepped_back c.now) c.now
