-- Runs of a cache whose values tell when they were fetched. Public clauses cite them.
use Rattle.std.specs.Prelude.{◌≡◌, ℕ, ◌-◌, ◌≤◌, Bool, true, false, Option, None, List, [], ◌∷◌}
use Rattle.std.specs.Map.{lookup}
use Rattle.std.specs.Option.{option_map_or}
use Rattle.clru_model.specs.Ages.{is_in_limit, aged_marks}
use Rattle.clru_model.specs.Entries.{touch}
use Rattle.clru_model.specs.Requests.{hit}
use Rattle.clru_model.specs.Runs.{IsRunOf, IsPut}
use Rattle.clru_model.specs.SizedRuns.{IsSizedPut, PutsWeighAsKeys}
use Rattle.clru_model.specs.Sizes.{SameWeights, hit_by_size}

module _ {K V : Type 0} (eq : K → K → Bool) (fetched_at : V → ℕ) (age : Option ℕ) where
  -- the key of r is held with a value whose age is within the limit
  abbrev pub is_fresh : K × ℕ → List (K × V) → Bool
  is_fresh r es = option_map_or (λ value. is_in_limit age (r.1 - fetched_at value)) (lookup (eq r.0) es) false

  -- the entries after a request: after a look-up of a fresh value, or else after this put, of a pair that was fetched at that time
  pub record IsAgedStep (put : K → List (K × V) → List (K × V) → Type 0) (r : K × ℕ) (es next : List (K × V)) : Type 0 where
    pub fresh : is_fresh r es ≡ true → next ≡ touch eq r.0 es
    pub stale : is_fresh r es ≡ false → put r.0 es next
    pub fetched : is_fresh r es ≡ false → (e : K × V) (rest : List (K × V)) → next ≡ e ∷ rest → fetched_at e.1 ≡ r.1

  -- for each request in order whether its key is held fresh before it
  abbrev pub fresh_before : List (List (K × V)) → List (K × ℕ) → List Bool
  fresh_before [] requests = []
  fresh_before (es ∷ later) [] = []
  fresh_before (es ∷ later) (r ∷ requests) = is_fresh r es ∷ fresh_before later requests

module _ {K : Type 0} (eq : K → K → Bool) (V : Type 0) where
  -- a run of such steps from the empty list holds a fresh value before each request exactly where the request hits
  abbrev pub AgedPutsHit : Type 0
  AgedPutsHit = (fetched_at : V → ℕ) (age : Option ℕ) (k : ℕ) (requests : List (K × ℕ)) (later : List (List (K × V))) → 1 ≤ k
      → IsRunOf (IsAgedStep eq fetched_at age (IsPut eq k)) ([] ∷ later) requests
      → fresh_before eq fetched_at age ([] ∷ later) requests ≡ aged_marks eq (hit eq k) None age requests

  -- and so by size, where each pair that comes first weighs what its key does
  abbrev pub SizedAgedPutsHit : Type 0
  SizedAgedPutsHit = (weight : K → ℕ) (pair_weight : K → V → ℕ) (fetched_at : V → ℕ) (age : Option ℕ) (c : ℕ)
      (requests : List (K × ℕ)) (later : List (List (K × V))) → SameWeights eq weight → PutsWeighAsKeys weight pair_weight later
      → IsRunOf (IsAgedStep eq fetched_at age (IsSizedPut eq pair_weight c)) ([] ∷ later) requests
      → fresh_before eq fetched_at age ([] ∷ later) requests ≡ aged_marks eq (hit_by_size eq weight c) None age requests
