-- Runs of puts by weight, where the weight of a pair is that of its key. Public clauses cite them.
use Rattle.std.specs.Prelude.{◌≡◌, ℕ, ◌<◌, ◌≤◌, Bool, true, false, if◌then◌else◌, nat_lt, Some, List, [], ◌∷◌}
use Rattle.std.specs.List.{slice_get, filter}
use Rattle.std.specs.Map.{keys_of}
use Rattle.clru_model.specs.Entries.{touch, size_of, weighted_put}
use Rattle.clru_model.specs.Requests.{holds}
use Rattle.clru_model.specs.Runs.{IsRunOf, IsGetOr, held_before}
use Rattle.clru_model.specs.SizedSchedule.{IsCompetitiveBySize, IsCompetitiveBySizeFromAnyStart}
use Rattle.clru_model.specs.Sizes.{SameWeights, hit_by_size, marks_by_size}
use Rattle.clru_model.specs.Spans.{size_of_misses}

module _ {K V : Type 0} (eq : K → K → Bool) (weight : K → V → ℕ) (c : ℕ) where
  -- the entries after a put of the key x by its weight under the capacity c, which takes the pair: those after a weighted put
  -- of some pair whose key is the same
  pub record IsSizedPut (x : K) (es next : List (K × V)) : Type 0 where
    pub key : K
    pub value : V
    pub same : eq x key ≡ true
    pub light : weight key value < c
    pub entries : next ≡ weighted_put eq weight c key value es

  -- the entries before each request and at the end, where each request in turn is a put of its key by its weight
  abbrev pub IsSizedPutRun : List (List (K × V)) → List K → Type 0
  IsSizedPutRun run requests = IsRunOf IsSizedPut run requests

-- the entries after a request of x by its weight: those after such a put where it is below the capacity, and else the same
pub record IsPutIfLight {K V : Type 0} (eq : K → K → Bool) (weight : K → ℕ) (pair_weight : K → V → ℕ) (c : ℕ)
    (x : K) (es next : List (K × V)) : Type 0 where
  pub light : weight x < c → IsSizedPut eq pair_weight c x es next
  pub heavy : c ≤ weight x → next ≡ es

module _ {K : Type 0} (eq : K → K → Bool) (weight : K → ℕ) (c : ℕ) where
  -- for each request in order whether it hits, after the requests of the past: where it is too heavy it misses, and is not
  -- among the past of the others
  abbrev pub marks_of_light_after : List K → List K → List Bool
  marks_of_light_after past [] = []
  marks_of_light_after past (x ∷ rs) = if nat_lt (weight x) c
      then hit_by_size eq weight c x past ∷ marks_of_light_after (x ∷ past) rs
      else false ∷ marks_of_light_after past rs

  abbrev pub marks_of_light : List K → List Bool
  marks_of_light requests = marks_of_light_after [] requests

-- of the marks those of the requests that pass the test
abbrev pub marks_where : {K : Type 0} → (K → Bool) → List Bool → List K → List Bool
marks_where test [] requests = []
marks_where test (mark ∷ ms) [] = []
marks_where test (mark ∷ ms) (x ∷ rs) = if test x then mark ∷ marks_where test ms rs else marks_where test ms rs

-- of the entries after each put, the first pair, which was put, weighs what its key does
abbrev pub PutsWeighAsKeys : {K V : Type 0} → (K → ℕ) → (K → V → ℕ) → List (List (K × V)) → Type 0
PutsWeighAsKeys {K} {V} weight pair_weight later = (i : ℕ) (key : K) (value : V) (rest : List (K × V))
    → slice_get later i ≡ Some ((key, value) ∷ rest) → pair_weight key value ≡ weight key

-- of the entries after each put, the first pair, which was put, weighs from the low weight of its key to the high one
abbrev pub PutsWeighBetween : {K V : Type 0} → (low high : K → ℕ) → (K → V → ℕ) → List (List (K × V)) → Type 0
PutsWeighBetween {K} {V} low high pair_weight later = (i : ℕ) (key : K) (value : V) (rest : List (K × V))
    → slice_get later i ≡ Some ((key, value) ∷ rest) → (low key ≤ pair_weight key value) × (pair_weight key value ≤ high key)

module _ {K : Type 0} (eq : K → K → Bool) (V : Type 0) where
  -- where each pair that is put weighs what its key does, a run of puts by weight from the empty list holds a key before its
  -- put exactly where the request hits by size
  abbrev pub SizedPutsHit : Type 0
  SizedPutsHit = (weight : K → ℕ) (pair_weight : K → V → ℕ) (c : ℕ) (requests : List K) (later : List (List (K × V)))
      → SameWeights eq weight → PutsWeighAsKeys weight pair_weight later
      → IsSizedPutRun eq pair_weight c ([] ∷ later) requests
      → held_before eq ([] ∷ later) requests ≡ marks_by_size eq weight c requests

  -- a look-up of a key that is held leaves what a put of its pair does
  abbrev pub TouchesArePuts : Type 0
  TouchesArePuts = (pair_weight : K → V → ℕ) (c : ℕ) (x : K) (es : List (K × V)) → size_of pair_weight es ≤ c
      → holds eq x (keys_of es) ≡ true → IsSizedPut eq pair_weight c x es (touch eq x es)

  -- and so, from entries that fit, a run of look-ups, each followed by a put where it finds nothing, is a run of puts
  abbrev pub SizedGetsOrPutsArePuts : Type 0
  SizedGetsOrPutsArePuts = (pair_weight : K → V → ℕ) (c : ℕ) (requests : List K) (first : List (K × V))
      (later : List (List (K × V))) → size_of pair_weight first ≤ c
      → IsRunOf (IsGetOr (IsSizedPut eq pair_weight c) eq) (first ∷ later) requests
      → IsSizedPutRun eq pair_weight c (first ∷ later) requests

  -- the sizes of the requests whose key is not held before their put keep the bound by size beside schedules that start empty
  abbrev pub SizedPutsCompete : Type 0
  SizedPutsCompete = (weight : K → ℕ) (pair_weight : K → V → ℕ) (c : ℕ) (requests : List K) (later : List (List (K × V)))
      → SameWeights eq weight → PutsWeighAsKeys weight pair_weight later
      → IsSizedPutRun eq pair_weight c ([] ∷ later) requests
      → IsCompetitiveBySize eq weight c requests (size_of_misses weight (held_before eq ([] ∷ later) requests) requests)

  -- and that beside schedules that start with any keys
  abbrev pub SizedPutsCompeteFromAnyStart : Type 0
  SizedPutsCompeteFromAnyStart = (weight : K → ℕ) (pair_weight : K → V → ℕ) (c : ℕ) (requests : List K)
      (later : List (List (K × V))) → SameWeights eq weight → PutsWeighAsKeys weight pair_weight later
      → IsSizedPutRun eq pair_weight c ([] ∷ later) requests
      → IsCompetitiveBySizeFromAnyStart eq weight c requests (size_of_misses weight (held_before eq ([] ∷ later) requests) requests)

  -- where puts of keys that are too heavy are refused, all others hit as if those were not there
  abbrev pub LightPutsHit : Type 0
  LightPutsHit = (weight : K → ℕ) (pair_weight : K → V → ℕ) (c : ℕ) (requests : List K) (later : List (List (K × V)))
      → SameWeights eq weight → PutsWeighAsKeys weight pair_weight later
      → IsRunOf (IsPutIfLight eq weight pair_weight c) ([] ∷ later) requests
      → held_before eq ([] ∷ later) requests ≡ marks_of_light eq weight c requests

  -- where the weight of a key changes between its puts, a key that would hit by the high weights is held before its put
  abbrev pub HighHitsAreHeld : Type 0
  HighHitsAreHeld = (low high : K → ℕ) (pair_weight : K → V → ℕ) (c i : ℕ) (requests : List K) (later : List (List (K × V)))
      → SameWeights eq low → SameWeights eq high → PutsWeighBetween low high pair_weight later
      → IsSizedPutRun eq pair_weight c ([] ∷ later) requests
      → slice_get (marks_by_size eq high c requests) i ≡ Some true
      → slice_get (held_before eq ([] ∷ later) requests) i ≡ Some true

  -- and one that is held would hit by the low ones
  abbrev pub HeldHitsByLow : Type 0
  HeldHitsByLow = (low high : K → ℕ) (pair_weight : K → V → ℕ) (c i : ℕ) (requests : List K) (later : List (List (K × V)))
      → SameWeights eq low → SameWeights eq high → PutsWeighBetween low high pair_weight later
      → IsSizedPutRun eq pair_weight c ([] ∷ later) requests
      → slice_get (held_before eq ([] ∷ later) requests) i ≡ Some true
      → slice_get (marks_by_size eq low c requests) i ≡ Some true

module _ {K : Type 0} (eq : K → K → Bool) where
  -- where puts of keys that are too heavy are refused, the others' marks are those of the list without these keys
  abbrev pub LightMarksAreOfOthers : Type 0
  LightMarksAreOfOthers = (weight : K → ℕ) (c : ℕ) (requests : List K)
      → marks_where (λ x. nat_lt (weight x) c) (marks_of_light eq weight c requests) requests
      ≡ marks_by_size eq weight c (filter (λ x. nat_lt (weight x) c) requests)
