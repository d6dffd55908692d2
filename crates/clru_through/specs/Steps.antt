-- One load of a store, as a step from the old store to the new one. Public clauses cite it.
use Rattle.std.specs.Prelude.{◌≡◌, ℕ, ◌<◌, ◌≤◌, Bool, true, false, ◌⊎◌, Option, Some, None, Result, Ok, Err}
use Rattle.std.specs.Map.{lookup}
use Rattle.clru.specs.Cache.{Cache, with_entries}
use Rattle.clru_model.specs.Entries.{touch, weighted_put}
use Rattle.clru.specs.Memory.{NeedsPlaceFor, GrowsOnlyIf}
use Rattle.clru_through.specs.Store.{Store, store}
use Rattle.clru_through.specs.declared.answer.Loaded.{Loaded}
use Rattle.clru_through.specs.declared.answer.Loaded.TheVariants.{Held, Passed}

module _ {K V W : Type 0} (eq : K → K → Bool) (weight : K → V → ℕ) (old : Cache K V W) (x : K) where
  -- the fetched value v is held, in front
  pub record IsStored (v : V) (new : Cache K V W) : Type 0 where
    pub light : weight x v < old.capacity
    pub entries : new.entries ≡ weighted_put eq weight old.capacity x v old.entries
    pub places : GrowsOnlyIf (NeedsPlaceFor eq weight old x v) old new

  -- the fetched value v is passed on, since it is too heavy or a place was needed for it
  pub record IsPassed (v given : V) (new : Cache K V W) : Type 0 where
    pub value : given ≡ v
    pub refused : (old.capacity ≤ weight x v) ⊎ NeedsPlaceFor eq weight old x v
    pub entries : new.entries ≡ old.entries
    pub places : GrowsOnlyIf (NeedsPlaceFor eq weight old x v) old new

  -- what becomes of the fetched value v
  abbrev pub Takes : V → Loaded V → Cache K V W → Type 0
  Takes v (Held fetched) new = (fetched ≡ true) × IsStored v new
  Takes v (Passed given) new = IsPassed v given new

  -- what becomes of a fetch's answer
  abbrev pub TakesAnswer : {E : Type 0} → Result V E → Result (Loaded V) E → Cache K V W → Type 0
  TakesAnswer (Ok v) (Ok loaded) new = Takes v loaded new
  TakesAnswer (Ok v) (Err e) new = ⊥
  TakesAnswer (Err d) (Ok loaded) new = ⊥
  TakesAnswer (Err d) (Err e) new = (e ≡ d) × (new ≡ old)

module _ {K V W R E : Type 0} (eq : K → K → Bool) (weight : K → V → ℕ) (fetches : R → K → Result V E → R → Type 0)
    (old : Store K V W R) (x : K) (result : Result (Loaded V) E) (new : Store K V W R) where
  -- a hit: the entry of x comes first, and the source stays as it is
  pub record Hits : Type 0 where
    pub answer : result ≡ Ok (Held false)
    pub ends : new ≡ store (with_entries old.cache (touch eq x old.cache.entries)) old.source

  -- a miss: one fetch, and its answer goes through the cache
  pub record Fetches : Type 0 where
    pub fetched : Result V E
    pub fetch : fetches old.source x fetched new.source
    pub passes : TakesAnswer eq weight old.cache x fetched result new.cache

  abbrev pub LoadsBy : Option V → Type 0
  LoadsBy (Some v) = Hits
  LoadsBy None = Fetches

  -- a load of x
  abbrev pub Loads : Type 0
  Loads = LoadsBy (lookup (eq x) old.cache.entries)

module _ {K V W R E : Type 0} (eq : K → K → Bool) (weight : K → V → ℕ) (fetches : R → K → Result V E → R → Type 0)
    (promise : V → Type 0) (old : Store K V W R) (x : K) (v : V) where
  -- a load of x may put the value v: x is not held, a fetch of it may give v, which keeps the promise and is not too heavy
  pub record MayPut : Type 0 where
    pub absent : lookup (eq x) old.cache.entries ≡ None
    pub fetch : (next : R) × fetches old.source x (Ok v) next
    pub keeps : promise v
    pub light : weight x v < old.cache.capacity
