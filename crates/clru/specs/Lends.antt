-- What a cache ends as, once a reference into it has ended. Public clauses cite it.
use Rattle.std.specs.Prelude.{◌≡◌, Bool, List, Option, Result, IfErr, ⊤}
use Rattle.std.specs.Borrow.{Fml, RattleType, MutBor, LendsIf, LendsSoOk, follows_so}
use Rattle.std.specs.HashMap.Lent.{HashMembers}
use Rattle.std.specs.Map.{set_value}
use Rattle.std.specs.declared.alloc.Allocator as alloc
use Rattle.std.specs.declared.hash.Hasher as hasher
use Rattle.std.specs.declared.hash.BuildHasher as builder
use mathlib.Core.Option.{none}
use Rattle.clru_model.specs.declared.weight.WeightScale as scale
use Rattle.clru_model.specs.Entries.{plain_put}
use Rattle.clru.specs.Cache.{Cache, with_entries}
use Rattle.clru.specs.Memory.{GrowsOnlyIf, NeedsPlace}
use Rattle.clru.specs.contracts.cache.CLruCache.{the_row}

module _ (K V S W A H : RattleType) (key : HashMembers K.Denot) (build : builder.Ghosts S.Denot H.Denot)
    (hash : hasher.Ghosts H.Denot) (weighs : scale.Ghosts W.Denot K.Denot V.Denot) (heap : alloc.Ghosts A.Denot) where
  -- the cache's type, as the logic holds it
  abbrev pub cache_row : RattleType
  cache_row = the_row K V S W A H (record { eq = key.eq }) (record { hash_input = key.hash_input })
      build hash weighs heap

  module _ (c : MutBor (Cache K.Denot V.Denot W.Denot)) where
    -- it has the entries es, and all else as before
    abbrev pub ends_with : List (K.Denot × V.Denot) → Fml
    ends_with es = follows_so cache_row cache_row c.ghost_name none (λ _ _. ⊤) (λ n. n ≡ with_entries c.now es)

    -- it has the entries es with the last value written through r at the first key that passes, and at `None` the entries es
    -- as they are
    abbrev pub lends_value : (K.Denot → Bool) → List (K.Denot × V.Denot) → Option (MutBor V.Denot) → Fml
    lends_value test es r = LendsIf cache_row V c r
        (λ w. with_entries c.now (set_value test es w)) (with_entries c.now es)

    -- it has in front, at x, the last value written through r, as after a plain put, and at `Err` its entries stay; its
    -- places grow only if x needs one
    abbrev pub lends_put : {E : Type 0} → K.Denot → Result (MutBor V.Denot) E → Fml
    lends_put x r = LendsSoOk cache_row V c r
        (λ n w. (n.entries ≡ plain_put key.eq c.now.capacity x w c.now.entries)
        × GrowsOnlyIf (NeedsPlace key.eq c.now x) c.now n)
        (λ n. (n.entries ≡ c.now.entries) × GrowsOnlyIf (NeedsPlace key.eq c.now x) c.now n)

    -- the same, where its entries are of `es` at `Err`
    abbrev pub lends_try : {E : Type 0} → K.Denot → Result (MutBor V.Denot) E
        → (E → List (K.Denot × V.Denot) → Type 0) → Fml
    lends_try x r es = LendsSoOk cache_row V c r
        (λ n w. (n.entries ≡ plain_put key.eq c.now.capacity x w c.now.entries)
        × GrowsOnlyIf (NeedsPlace key.eq c.now x) c.now n)
        (λ n. IfErr r (λ e. es e n.entries) × GrowsOnlyIf (NeedsPlace key.eq c.now x) c.now n)
