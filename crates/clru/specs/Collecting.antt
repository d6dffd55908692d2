-- Plain puts of one item after the other. Public clauses cite them.
use Rattle.std.specs.Prelude.{◌≡◌, ℕ, max, Bool, Option, Some, Result, Ok, Err, List, [], ◌∷◌, length}
use Rattle.std.specs.Iterator.{Drains, YieldsThen}
use Rattle.std.specs.List.{FoldsTo}
use Rattle.clru_model.specs.Entries.{plain_put}
use Rattle.clru.specs.Cache.{Cache, cache}
use Rattle.clru.specs.Memory.{NeedsPlace, Accepts, RefusesForMemory}

module _ {K V : Type 0} (eq : K → K → Bool) (c : ℕ) where
  -- the entries after a plain put of each of the pairs in turn, under the capacity c
  abbrev pub put_all : List (K × V) → List (K × V) → List (K × V)
  put_all [] old = old
  put_all (e ∷ es) old = put_all es (plain_put eq c e.0 e.1 old)

module _ {K V W : Type 0} (eq : K → K → Bool) where
  -- a put of the pair e that succeeded
  abbrev pub PutStep : Cache K V W → K × V → Cache K V W → Type 0
  PutStep old e new = Accepts (NeedsPlace eq old e.0) (plain_put eq old.capacity e.0 e.1 old.entries) old new

  -- a put of the pair e that was refused for memory
  abbrev pub PutRefused : Cache K V W → K × V → Cache K V W → Type 0
  PutRefused old e new = RefusesForMemory (NeedsPlace eq old e.0) old new

  -- the pairs' puts, one after the other, each of which succeeded
  abbrev pub PutsAll : Cache K V W → List (K × V) → Cache K V W → Type 0
  PutsAll old es new = FoldsTo PutStep old es new

  module _ {S : Type 0} (next : S → Option (K × V) → S → Type 0) (it : S) (old : Cache K V W) where
    -- all that the iterator gives was put; or the put of one was refused, whose pair is the answer: those before it were
    -- put, and none behind it was drawn
    abbrev pub PutsItems : Result (Unit {0}) (K × V) → Cache K V W → Type 0
    PutsItems (Ok done) new = (es : List (K × V)) × Drains next it es × PutsAll old es new
    PutsItems (Err e) new =
        (es : List (K × V)) × (rest : S) × (last : Cache K V W)
        × YieldsThen next it es (Some e) rest × PutsAll old es last × PutRefused last e new

    -- all was put, and then the capacity became the number of entries, or 1 where there is none; or some put was refused
    abbrev pub CollectsItems : {N : Type 0} → Result (Cache K V W) N → Type 0
    CollectsItems (Ok c) = (full : Cache K V W) × PutsItems (Ok tt) full
        × (c ≡ cache full.entries (max 1 (length full.entries)) full.scale full.places)
    CollectsItems (Err refusal) = (e : K × V) × (last : Cache K V W) × PutsItems (Err e) last
