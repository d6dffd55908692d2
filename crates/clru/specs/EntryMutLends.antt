-- What becomes of an entry that is lent with its cache, and of the cache. Public clauses cite it.
use Rattle.std.specs.Prelude.{◌≡◌, Option, []}
use Rattle.std.specs.Borrow.{Fml, RattleType, MutBor, follows, Lends, RestsIfNone}
use Rattle.std.specs.HashMap.Lent.{HashMembers}
use Rattle.std.specs.declared.alloc.Allocator as alloc
use Rattle.std.specs.declared.hash.Hasher as hasher
use Rattle.std.specs.declared.hash.BuildHasher as builder
use mir.Syntax.{named}
use Rattle.clru_model.specs.declared.weight.WeightScale as scale
use Rattle.clru_model.specs.declared.weight.ZeroWeightScale.{ZeroWeightScale}
use Rattle.clru_model.specs.contracts.weight.ZeroWeightScale.{the_row as zero_scale_row}
use Rattle.clru_model.specs.Entries.{with_value_at}
use Rattle.clru.specs.Cache.{Cache, with_entries}
use Rattle.clru.specs.EntryMut.{index_of, cache_name, cache_with, with_value}
use Rattle.clru.specs.Lends.{cache_row}
use Rattle.clru.specs.declared.entry.End.{End}
use Rattle.clru.specs.declared.entry.EntryMut.{EntryMut}
use Rattle.clru.specs.contracts.entry.EntryMut.{the_row}

module _ (K V S A H : RattleType) (key : HashMembers K.Denot) (build : builder.Ghosts S.Denot H.Denot)
    (hash : hasher.Ghosts H.Denot) (heap : alloc.Ghosts A.Denot) where
  -- the type of an entry that is lent. Its lifetime is the second of the signature
  abbrev pub entry_row : RattleType
  entry_row = the_row (record { mir = named 1; lft = [] }) K V S A H
      (record { eq = key.eq }) (record { hash_input = key.hash_input }) build hash heap

  -- it has the last value written through r
  abbrev pub lends_entry : MutBor (EntryMut K.Denot V.Denot S.Denot A.Denot H.Denot
      (record { eq = key.eq }) (record { hash_input = key.hash_input }) build hash)
      → MutBor V.Denot → Fml
  lends_entry e r = follows entry_row V e.ghost_name r.ghost_name (with_value e.now)

  module _ (weighs : scale.Ghosts ZeroWeightScale K.Denot V.Denot) where
    abbrev pub plain_row : RattleType
    plain_row = cache_row K V S zero_scale_row A H key build hash weighs heap

    -- the cache of the entry has the last value written through r at the entry's index
    abbrev pub lends_cache : EntryMut K.Denot V.Denot S.Denot A.Denot H.Denot
        (record { eq = key.eq }) (record { hash_input = key.hash_input }) build hash
        → MutBor V.Denot → Fml
    lends_cache e r = follows plain_row V (cache_name e) r.ghost_name (cache_with e)

    module _ (c : MutBor (Cache K.Denot V.Denot ZeroWeightScale)) where
      -- the cache has the last value written through r at the end
      abbrev pub lends_end : End → MutBor V.Denot → Fml
      lends_end end r = Lends plain_row V c r
          (λ w. with_entries c.now (with_value_at (index_of end c.now.entries) w c.now.entries))

      -- where no entry is lent, the cache stays
      abbrev pub rests_if_none : Option (EntryMut K.Denot V.Denot S.Denot A.Denot H.Denot
          (record { eq = key.eq }) (record { hash_input = key.hash_input }) build hash) → Fml
      rests_if_none r = RestsIfNone plain_row c (λ e. cache_name e) r (λ n. n ≡ c.now)
