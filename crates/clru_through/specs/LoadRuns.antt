-- Loads of one key after the other. Public clauses cite them.
use Rattle.std.specs.Prelude.{◌≡◌, ℕ, Bool, if◌then◌else◌, not, List, [], ◌∷◌, length, map, Result, Ok, slice_get, IsSomeAnd}
use Rattle.std.specs.Map.{keys_of}
use Rattle.clru_model.specs.Entries.{size_of}
use Rattle.clru_model.specs.Requests.{marks, misses}
use Rattle.clru_model.specs.Sizes.{SameWeights, marks_by_size, missed_size}
use Rattle.clru_through.specs.Steps.{Loads}
use Rattle.clru_through.specs.Store.{Store}
use Rattle.clru_through.specs.declared.answer.Loaded.TheVariants.{Held}

-- the requests whose mark is false, in order
abbrev pub missed : {K : Type 0} → List Bool → List K → List K
missed [] requests = []
missed (mark ∷ ms) [] = []
missed (mark ∷ ms) (x ∷ rs) = if mark then missed ms rs else x ∷ missed ms rs

-- one fetch for each pair, in order, of its key and with its value, takes a source from its first state to its last
abbrev pub AreFetched : {K V R E : Type 0} → (R → K → Result V E → R → Type 0) → List (K × V) → R → R → Type 0
AreFetched fetches [] first last = last ≡ first
AreFetched {R = R} fetches (e ∷ es) first last = (next : R) × fetches first e.0 (Ok e.1) next × AreFetched fetches es next last

module _ {K V W R E : Type 0} (eq : K → K → Bool) (weight : W → K → V → ℕ) (fetches : R → K → Result V E → R → Type 0) where
  -- each key in turn is loaded, and its value is then held; `fetched` tells of each load whether it fetched
  abbrev pub IsLoadRun : Store K V W R → List K → List Bool → Store K V W R → Type 0
  IsLoadRun old [] [] last = last ≡ old
  IsLoadRun old [] (f ∷ fetched) last = ⊥
  IsLoadRun old (x ∷ keys) [] last = ⊥
  IsLoadRun old (x ∷ keys) (f ∷ fetched) last = (next : Store K V W R)
      × Loads eq (weight old.cache.scale) fetches old x (Ok (Held f)) next × IsLoadRun next keys fetched last

  -- the pair in front weighs what its key does
  abbrev pub FrontWeighs : (K → ℕ) → Store K V W R → Type 0
  FrontWeighs size store = IsSomeAnd (slice_get store.cache.entries 0) (λ e. weight store.cache.scale e.0 e.1 ≡ size e.0)

  -- the same run, where each loaded pair weighs what its key does
  abbrev pub IsSizedLoadRun : (K → ℕ) → Store K V W R → List K → List Bool → Store K V W R → Type 0
  IsSizedLoadRun size old [] [] last = last ≡ old
  IsSizedLoadRun size old [] (f ∷ fetched) last = ⊥
  IsSizedLoadRun size old (x ∷ keys) [] last = ⊥
  IsSizedLoadRun size old (x ∷ keys) (f ∷ fetched) last = (next : Store K V W R)
      × Loads eq (weight old.cache.scale) fetches old x (Ok (Held f)) next × FrontWeighs size next
      × IsSizedLoadRun size next keys fetched last

  -- the fetches from one store to another are of these keys, in their order
  abbrev pub FetchedKeys : List K → Store K V W R → Store K V W R → Type 0
  FetchedKeys keys old last = (pairs : List (K × V)) × AreFetched fetches pairs old.source last.source × (keys_of pairs ≡ keys)

  -- and their pairs have this size
  abbrev pub FetchedSize : List K → ℕ → Store K V W R → Store K V W R → Type 0
  FetchedSize keys size old last = (pairs : List (K × V)) × AreFetched fetches pairs old.source last.source
      × (keys_of pairs ≡ keys) × (size_of (weight old.cache.scale) pairs ≡ size)

  -- of keys that are loaded through an empty cache, at weight zero, exactly those are fetched whose request misses
  abbrev pub LoadsFetchWhereMissed : Type 0
  LoadsFetchWhereMissed = (old last : Store K V W R) (keys : List K) (fetched : List Bool)
      → ((x : K) (v : V) → weight old.cache.scale x v ≡ 0) → old.cache.entries ≡ [] → IsLoadRun old keys fetched last
      → map not fetched ≡ marks eq old.cache.capacity keys

  -- so the fetches are, in order, those of the requests whose mark is false
  abbrev pub LoadsFetchMisses : Type 0
  LoadsFetchMisses = (old last : Store K V W R) (keys : List K) (fetched : List Bool)
      → ((x : K) (v : V) → weight old.cache.scale x v ≡ 0) → old.cache.entries ≡ [] → IsLoadRun old keys fetched last
      → FetchedKeys (missed (marks eq old.cache.capacity keys) keys) old last

  -- the same by size, where each loaded pair weighs what its key does
  abbrev pub LoadsFetchWhereMissedBySize : Type 0
  LoadsFetchWhereMissedBySize = (size : K → ℕ) (old last : Store K V W R) (keys : List K) (fetched : List Bool)
      → SameWeights eq size → old.cache.entries ≡ [] → IsSizedLoadRun size old keys fetched last
      → map not fetched ≡ marks_by_size eq size old.cache.capacity keys

  -- and the size of what is fetched is the missed size
  abbrev pub LoadsFetchMissedSize : Type 0
  LoadsFetchMissedSize = (size : K → ℕ) (old last : Store K V W R) (keys : List K) (fetched : List Bool)
      → SameWeights eq size → old.cache.entries ≡ [] → IsSizedLoadRun size old keys fetched last
      → FetchedSize (missed (marks_by_size eq size old.cache.capacity keys) keys)
      (missed_size eq size old.cache.capacity keys) old last

module _ {K : Type 0} (eq : K → K → Bool) where
  -- there are as many requests whose mark is false as there are misses
  abbrev pub MissedAreMisses : Type 0
  MissedAreMisses = (k : ℕ) (keys : List K) → length (missed (marks eq k keys) keys) ≡ misses eq k keys
