-- What a store ends as, once what a call lends has ended. Public clauses cite it.
use Rattle.std.specs.Prelude.{◌≡◌, Bool, ⊤, Option, Result, IfNone, IfSome, IsSomeAnd, slice_get}
use Rattle.std.specs.Borrow.{Fml, RattleType, Bor, MutBor, Lends, follows_so}
use Rattle.std.specs.HashMap.Lent.{HashMembers}
use Rattle.std.specs.declared.alloc.Allocator as alloc
use Rattle.std.specs.declared.hash.Hasher as hasher
use Rattle.std.specs.declared.hash.BuildHasher as builder
use mathlib.Core.Option.{none}
use Rattle.clru.specs.Cache.{with_entries}
use Rattle.clru_model.specs.Entries.{touch}
use Rattle.clru_model.specs.declared.weight.WeightScale as scale
use Rattle.clru_through.specs.Got.{IsGot}
use Rattle.clru_through.specs.Store.{Store, store}
use Rattle.clru_through.specs.contracts.store.Through.{the_row}
use Rattle.clru_through.specs.declared.answer.Answer.{Answer}
use Rattle.clru_through.specs.declared.source.Fetch as fetch

module _ (K V E R S W A M H : RattleType) (key : HashMembers K.Denot) (source : fetch.Ghosts R.Denot K.Denot V.Denot E.Denot M.Denot)
    (build : builder.Ghosts S.Denot H.Denot) (hash : hasher.Ghosts H.Denot) (weighs : scale.Ghosts W.Denot K.Denot V.Denot)
    (heap : alloc.Ghosts A.Denot) where
  -- the store's type, as the logic holds it
  abbrev pub store_row : RattleType
  store_row = the_row K V E R S W A M H (record { eq = key.eq }) (record { hash_input = key.hash_input }) source
      build hash weighs heap

  module _ (c : MutBor (Store K.Denot V.Denot W.Denot R.Denot)) where
    -- it ends as some load of x leaves it, whose result this one lends, and the source keeps its promises
    abbrev pub ends_loaded : K.Denot → Result (Answer V.Denot) (Bor E.Denot) → Fml
    ends_loaded x result = follows_so store_row store_row c.ghost_name none (λ _ _. ⊤)
        (λ n. IsGot key.eq (weighs.weight c.now.cache.scale) source.fetches c.now x result n
        × ((k : K.Denot) → source.promised n.source k ≡ source.promised c.now.source k))

    -- it has the last source written through r, and holds what it held
    abbrev pub lends_source : MutBor R.Denot → Fml
    lends_source r = Lends store_row R c r (λ source. store c.now.cache source)

    -- it ends with the entry of x, if held, in front, and the source as before
    abbrev pub ends_touched : {X : Type 0} → (X → K.Denot → Bool) → X → Option (Bor V.Denot) → Fml
    ends_touched eq x result = follows_so store_row store_row c.ghost_name none (λ _ _. ⊤)
        (λ n. (n ≡ store (with_entries c.now.cache (touch eq x c.now.cache.entries)) c.now.source)
        × IfNone result (n ≡ c.now)
        × IfSome result (λ v. IsSomeAnd (slice_get n.cache.entries 0) (λ e. e.1 ≡ v.now)))
