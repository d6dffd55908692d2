-- One step of the model: a call, its answer, and the cache before and after it. Public clauses cite it.
use Rattle.std.specs.Prelude.{◌≡◌, ℕ, ◌<◌, ◌≤◌, ◌-◌, ◌==◌, Bool, List, ◌∷◌, ◌++◌, length, drop, Option, Some, None, is_some, Result, Ok, Err, slice_get, max, not, [], take, filter, map, reverse}
use Rattle.std.specs.Map.{lookup, set_value}
use Rattle.std.specs.Option.{option_map}
use Rattle.clru_model.specs.declared.error.PutError.{PutError}
use Rattle.clru_model.specs.declared.error.PutError.TheVariants.{TooHeavy, NoMemory}
use Rattle.clru_model.specs.declared.error.TryPutError.{TryPutError}
use Rattle.clru_model.specs.declared.error.TryPutError.TheVariants as try
use Rattle.clru.specs.Cache.{Cache, cache, with_entries}
use Rattle.clru.specs.Collecting.{PutsAll, PutStep, PutRefused}
use Rattle.clru_model.specs.Entries.{without, demote, touch, fit, plain_drop, weighted_put, weighted_drops, weight_of, size_of, with_value_at}
use Rattle.clru.specs.Memory.{GrowsOnlyIf, NeedsPlace, NeedsPlaceFor, Accepts, RefusesForMemory}
use Rattle.clru.specs.declared.cache.answer.Put as stored
use Rattle.clru_runs.specs.declared.call.Answer.{Answer}
use Rattle.clru_runs.specs.declared.call.Answer.TheVariants.{Stored, Weighed, Lent, Tried, Extended, Value, Pair, Number, Flag, Done}
use Rattle.clru_runs.specs.declared.call.Attempt.{Attempt}
use Rattle.clru_runs.specs.declared.call.Attempt.TheVariants.{Store, Fail}
use Rattle.clru_runs.specs.declared.call.Call.{Call}
use Rattle.clru_runs.specs.declared.call.Call.TheVariants.{PutWithWeight, Get, Peek, Contains, Len, Weight, Size, Capacity, IsEmpty, IsFull, Front, Back, Nth, NthBack, Demote, Pop, PopFront, PopBack, Clear, Resize, Retain}
use Rattle.clru_runs.specs.declared.call.PlainCall.{PlainCall}
use Rattle.clru_runs.specs.declared.call.PlainCall.TheVariants.{Put, PutOrModify, TryPutOrModify, GetMut, PeekMut, FrontMut, BackMut, RetainMut, Extend, Any}
use Rattle.clru_runs.specs.declared.call.Weighing.{Weighing}

-- the value at an index
abbrev pub value_at : {K V : Type 0} → ℕ → List (K × V) → Option V
value_at i es = option_map (λ e. e.1) (slice_get es i)

module _ {K V W : Type 0} where
  -- the answer tells a result, of which this holds
  abbrev pub Tells : {R : Type 0} → (R → Answer K V) → (R → Cache K V W → Type 0) → Answer K V → Cache K V W → Type 0
  Tells {R} tells Holds answer new = (result : R) × (answer ≡ tells result) × Holds result new

  module _ (eq : K → K → Bool) where
    module _ (old : Cache K V W) (x : K) (v : V) where
      -- a plain put, which hands this out
      abbrev pub PlainPuts : {R : Type 0} → R → Result R (K × V) → Cache K V W → Type 0
      PlainPuts this (Ok out) new = (out ≡ this) × PutStep eq old (x, v) new
      PlainPuts this (Err back) new = (back ≡ (x, v)) × PutRefused eq old (x, v) new

      -- what it hands out: the value of x that it replaces, and the pair that it drops
      abbrev pub stores : stored.Put K V
      stores = record { replaced = lookup (eq x) old.entries; dropped = plain_drop eq old.capacity x old.entries }

    module _ (old : Cache K V W) (es : List (K × V)) where
      -- plain puts of the pairs in turn: of all, or of those before the first that was refused
      abbrev pub Extends : Result (Unit {0}) (K × V) → Cache K V W → Type 0
      Extends (Ok done) new = PutsAll eq old es new
      Extends (Err e) new = (before behind : List (K × V)) × (last : Cache K V W) × (es ≡ before ++ e ∷ behind)
          × PutsAll eq old before last × PutRefused eq last e new

    module _ (old : Cache K V W) (x : K) where
      -- the entries once v is written to a held key
      abbrev pub written : Option V → List (K × V)
      written None = old.entries
      written (Some v) = set_value (eq x) old.entries v

      -- a put-or-modify whose closures may fail: where they do, the entry of a held key comes first, with what was written
      abbrev pub TryPuts : Attempt V → Result V (TryPutError K (Attempt V) (Unit {0})) → Cache K V W → Type 0
      TryPuts (Store v) (Ok out) new = (out ≡ v) × PutStep eq old (x, v) new
      TryPuts (Fail left) (Ok out) new = ⊥
      TryPuts attempt (Err (try.NoMemory k d)) new = let back : K × Attempt V = (k, d) in
          (back ≡ (x, attempt)) × RefusesForMemory (NeedsPlace eq old x) old new
      TryPuts (Store v) (Err (try.Failed f)) new = ⊥
      TryPuts (Fail left) (Err (try.Failed f)) new = (new.entries ≡ touch eq x (written left))
          × GrowsOnlyIf (NeedsPlace eq old x) old new

    module _ (weight : K → V → ℕ) (old : Cache K V W) (x : K) (v : V) where
      -- what a weighted put hands out: the value of x that it replaces, and of the pairs that it drops the number and the last
      abbrev pub weighs : Weighing K V
      weighs = let drops = weighted_drops eq weight old.capacity x v old.entries in
          record {
            replaced = lookup (eq x) old.entries;
            drop_count = length drops;
            last = slice_get drops (length drops - 1);
          }

      -- a weighted put
      abbrev pub WeightedPuts : Result (Weighing K V) (PutError K V) → Cache K V W → Type 0
      WeightedPuts (Ok out) new = (weight x v < old.capacity) × (out ≡ weighs)
          × Accepts (NeedsPlaceFor eq weight old x v) (weighted_put eq weight old.capacity x v old.entries) old new
      WeightedPuts (Err (TooHeavy k w)) new = let back : K × V = (k, w) in
          (old.capacity ≤ weight x v) × (back ≡ (x, v)) × (new ≡ old)
      WeightedPuts (Err (NoMemory k w)) new = let back : K × V = (k, w) in
          (back ≡ (x, v)) × RefusesForMemory (NeedsPlaceFor eq weight old x v) old new

    -- a call of a cache by any scale, one line for each
    abbrev pub Step : (W → K → V → ℕ) → Cache K V W → Call K V → Answer K V → Cache K V W → Type 0
    Step weight old (PutWithWeight x v) answer new = Tells Weighed (WeightedPuts (weight old.scale) old x v) answer new
    Step weight old (Get x) answer new = (answer ≡ Value (lookup (eq x) old.entries))
        × (new ≡ with_entries old (touch eq x old.entries))
    Step weight old (Peek x) answer new = (answer ≡ Value (lookup (eq x) old.entries)) × (new ≡ old)
    Step weight old (Contains x) answer new = (answer ≡ Flag (is_some (lookup (eq x) old.entries))) × (new ≡ old)
    Step weight old Len answer new = (answer ≡ Number (length old.entries)) × (new ≡ old)
    Step weight old Weight answer new = (answer ≡ Number (weight_of (weight old.scale) old.entries)) × (new ≡ old)
    Step weight old Size answer new = (answer ≡ Number (size_of (weight old.scale) old.entries)) × (new ≡ old)
    Step weight old Capacity answer new = (answer ≡ Number old.capacity) × (new ≡ old)
    Step weight old IsEmpty answer new = (answer ≡ Flag (length old.entries == 0)) × (new ≡ old)
    Step weight old IsFull answer new = (answer ≡ Flag (size_of (weight old.scale) old.entries == old.capacity))
        × (new ≡ old)
    Step weight old (Demote x) answer new = (answer ≡ Flag (is_some (lookup (eq x) old.entries)))
        × (new ≡ with_entries old (demote eq x old.entries))
    Step weight old (Pop x) answer new = (answer ≡ Value (lookup (eq x) old.entries))
        × (new ≡ with_entries old (without eq x old.entries))
    Step weight old Front answer new = (answer ≡ Value (value_at 0 old.entries)) × (new ≡ old)
    Step weight old Back answer new = (answer ≡ Value (value_at (length old.entries - 1) old.entries)) × (new ≡ old)
    Step weight old (Nth n) answer new = (answer ≡ Value (value_at n old.entries)) × (new ≡ old)
    Step weight old (NthBack n) answer new = (answer ≡ Value (value_at n (reverse old.entries))) × (new ≡ old)
    Step weight old PopFront answer new = (answer ≡ Pair (slice_get old.entries 0))
        × (new ≡ with_entries old (drop 1 old.entries))
    Step weight old PopBack answer new =
        (answer ≡ Pair (slice_get old.entries (length old.entries - 1)))
        × (new ≡ with_entries old (take (length old.entries - 1) old.entries))
    Step weight old Clear answer new = (answer ≡ Done) × (new ≡ with_entries old [])
    Step weight old (Resize n) answer new =
        (answer ≡ Done) × (new ≡ cache (fit (weight old.scale) (max 1 n) old.entries) (max 1 n) old.scale old.places)
    Step weight old (Retain x) answer new = (answer ≡ Done)
        × (new ≡ with_entries old (filter (λ e. not (eq e.0 x)) old.entries))

    -- a call of a cache whose pairs weigh nothing
    abbrev pub PlainStep : Cache K V W → PlainCall K V → Answer K V → Cache K V W → Type 0
    PlainStep old (Put x v) answer new = Tells Stored (PlainPuts old x v (stores old x v)) answer new
    PlainStep old (PutOrModify x v) answer new = Tells Lent (PlainPuts old x v v) answer new
    PlainStep old (RetainMut x v) answer new =
        (answer ≡ Done) × (new ≡ with_entries old (map (λ e. (e.0, v)) (filter (λ e. not (eq e.0 x)) old.entries)))
    PlainStep old (Extend es) answer new = Tells Extended (Extends old es.items) answer new
    PlainStep old (TryPutOrModify x attempt) answer new = Tells Tried (TryPuts old x attempt) answer new
    PlainStep old (GetMut x v) answer new = (answer ≡ Value (lookup (eq x) old.entries))
        × (new ≡ with_entries old (set_value (eq x) (touch eq x old.entries) v))
    PlainStep old (PeekMut x v) answer new = (answer ≡ Value (lookup (eq x) old.entries))
        × (new ≡ with_entries old (set_value (eq x) old.entries v))
    PlainStep old (FrontMut v) answer new = (answer ≡ Value (value_at 0 old.entries))
        × (new ≡ with_entries old (with_value_at 0 v old.entries))
    PlainStep old (BackMut v) answer new = (answer ≡ Value (value_at (length old.entries - 1) old.entries))
        × (new ≡ with_entries old (with_value_at (length old.entries - 1) v old.entries))
    PlainStep old (Any call) answer new = Step (λ _ _ _. 0) old call answer new
