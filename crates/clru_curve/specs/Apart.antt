-- Requests of several classes, with a cache for each beside one cache for all. Public clauses cite them.
use Rattle.std.specs.Prelude.{◌≡◌, ℕ, suc, ◌+◌, ◌-◌, ◌*◌, ◌<◌, ◌≤◌, nat_eq, Bool, true, List, [], ◌∷◌, length, slice_index_or, sum, All}
use Rattle.std.specs.List.{filter}
use Rattle.clru_model.specs.Requests.{holds, misses}
use Rattle.clru_model.specs.Sizes.{SameWeights, missed_size}

module _ {K : Type 0} (eq : K → K → Bool) where
  -- the requests of the class i
  abbrev pub of_class : (K → ℕ) → ℕ → List K → List K
  of_class class i requests = filter (λ x. nat_eq (class x) i) requests

  -- the misses of caches of these capacities, one for each class from i on
  abbrev pub misses_apart : (K → ℕ) → ℕ → List ℕ → List K → ℕ
  misses_apart class i [] requests = 0
  misses_apart class i (c ∷ cs) requests = misses eq c (of_class class i requests) + misses_apart class (suc i) cs requests

  -- equal keys are of one class
  abbrev pub RespectsKeys : (K → ℕ) → Type 0
  RespectsKeys class = (x y : K) → eq x y ≡ true → class x ≡ class y

  -- one cache of k keys misses at most k / (k - h) times as much as caches for each class that have h keys together; of those
  -- without room each request misses
  abbrev pub OneIsNearMany : Type 0
  OneIsNearMany = (class : K → ℕ) (capacities : List ℕ) (k : ℕ) (requests : List K)
      → RespectsKeys class → ((x : K) → holds eq x requests ≡ true → class x < length capacities)
      → sum capacities < k
      → (k - sum capacities) * misses eq k requests ≤ k * misses_apart class 0 capacities requests

  -- and k / (k - h + 1) times as much, if each of them has room for a key
  abbrev pub OneIsNearerMany : Type 0
  OneIsNearerMany = (class : K → ℕ) (capacities : List ℕ) (k : ℕ) (requests : List K)
      → RespectsKeys class → ((x : K) → holds eq x requests ≡ true → class x < length capacities)
      → All (λ c. 1 ≤ c) capacities → 1 ≤ length capacities → sum capacities ≤ k
      → (k - sum capacities + 1) * misses eq k requests ≤ k * misses_apart class 0 capacities requests

module _ {K : Type 0} (eq : K → K → Bool) (weight : K → ℕ) where
  -- the size that caches of these sizes miss, one for each class from i on
  abbrev pub missed_size_apart : (K → ℕ) → ℕ → List ℕ → List K → ℕ
  missed_size_apart class i [] requests = 0
  missed_size_apart class i (c ∷ cs) requests = missed_size eq weight c (of_class eq class i requests)
      + missed_size_apart class (suc i) cs requests

module _ {K : Type 0} (eq : K → K → Bool) where
  -- where no request weighs more than g, one cache of the size k misses at most k / (k - h - g) times the size that caches for each class
  -- miss, which have the size h together; those without room for a request miss it
  abbrev pub OneSizeIsNearMany : Type 0
  OneSizeIsNearMany = (weight class : K → ℕ) (capacities : List ℕ) (k g : ℕ) (requests : List K)
      → SameWeights eq weight → RespectsKeys eq class → ((x : K) → holds eq x requests ≡ true → class x < length capacities)
      → ((x : K) → holds eq x requests ≡ true → weight x ≤ g) → sum capacities + g < k
      → (k - (sum capacities + g)) * missed_size eq weight k requests ≤ k * missed_size_apart eq weight class 0 capacities requests

  -- and k / (k - h + 1) times as much, if the cache of its class has room for each request
  abbrev pub OneSizeIsNearerMany : Type 0
  OneSizeIsNearerMany = (weight class : K → ℕ) (capacities : List ℕ) (k : ℕ) (requests : List K)
      → SameWeights eq weight → RespectsKeys eq class
      → ((x : K) → holds eq x requests ≡ true → weight x < slice_index_or capacities (class x) 0) → sum capacities ≤ k
      → (k - sum capacities + 1) * missed_size eq weight k requests ≤ k * missed_size_apart eq weight class 0 capacities requests
