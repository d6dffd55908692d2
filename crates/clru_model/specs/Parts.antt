-- What two lists of requests in a row miss, from what each tells by itself. Public clauses cite it.
use Rattle.std.specs.Prelude.{◌≡◌, ℕ, ◌+◌, Bool, true, false, not, if◌then◌else◌, Option, None, List, [], ◌∷◌, ◌++◌, reverse}
use Rattle.std.specs.List.{filter, find}
use Rattle.std.specs.Map.{keys_of}
use Rattle.clru_model.specs.Ages.{aged_marks, aged_misses}
use Rattle.clru_model.specs.Requests.{holds, since, sum_distinct, distinct, hit, misses}
use Rattle.clru_model.specs.Sizes.{SameWeights, total, hit_by_size, misses_by_size, missed_size}
use Rattle.clru_model.specs.Spans.{size_of_misses}

module _ {K : Type 0} (hits : K → List K → Bool) (cost : K → ℕ) where
  -- the cost of the requests that don't hit, after the requests of the past, the latest first
  abbrev pub missed_cost_after : List K → List K → ℕ
  missed_cost_after past [] = 0
  missed_cost_after past (x ∷ rs) = (if hits x past then 0 else cost x) + missed_cost_after (x ∷ past) rs

  -- the cost of the requests that don't hit
  abbrev pub missed_cost : List K → ℕ
  missed_cost requests = missed_cost_after [] requests

module _ {K : Type 0} (eq : K → K → Bool) where
  -- of the requests, in order, the first one for each key
  abbrev pub firsts : List K → List K
  firsts [] = []
  firsts (x ∷ rs) = x ∷ filter (λ y. not (eq x y)) (firsts rs)

  -- and the latest one
  abbrev pub lasts : List K → List K
  lasts [] = []
  lasts (x ∷ rs) = if holds eq x rs then lasts rs else x ∷ lasts rs

  -- requests that are not the first of the second list for their keys miss as they do in that list alone; the first ones miss as they
  -- do behind the latest ones of the first list
  abbrev pub PartsMiss : Type 0
  PartsMiss = (k : ℕ) (one two : List K) → misses eq k (one ++ two) + (distinct eq (reverse one) + distinct eq (reverse two))
      ≡ misses eq k one + (misses eq k (lasts one ++ firsts two) + misses eq k two)

  -- of the requests of the past, the latest first, a test of hits looks at the latest one of the key, and at the keys since then
  pub record IsByLatest (hits : K → List K → Bool) : Type 0 where
    pub first : (x : K) (past : List K) → holds eq x past ≡ false → hits x past ≡ false
    pub alike : (x : K) (past other : List K) → find (eq x) past ≡ find (eq x) other
        → ((z : K) → holds eq z (since eq x past) ≡ holds eq z (since eq x other)) → hits x past ≡ hits x other

  -- the general law, by any such test and any cost of a request. What is counted twice is the cost of one request of each key: of
  -- the latest ones of the first list, and of the first ones of the second
  abbrev pub TestedPartsMiss : Type 0
  TestedPartsMiss = (hits : K → List K → Bool) (cost : K → ℕ) (one two : List K) → IsByLatest hits
      → missed_cost hits cost (one ++ two) + (sum_distinct eq cost one + sum_distinct eq cost (reverse two))
      ≡ missed_cost hits cost one + (missed_cost hits cost (lasts one ++ firsts two) + missed_cost hits cost two)

  -- so is this count of the requests that miss, where the requests for keys that are new count so much
  abbrev pub IsOfParts : (missed new : List K → ℕ) → Type 0
  IsOfParts missed new = (one two : List K) → missed (one ++ two) + (new (reverse one) + new (reverse two))
      ≡ missed one + (missed (lasts one ++ firsts two) + missed two)

  -- by size, how many miss
  abbrev pub PartsMissBySize : Type 0
  PartsMissBySize = (weight : K → ℕ) (c : ℕ) → SameWeights eq weight → IsOfParts (misses_by_size eq weight c) (distinct eq)

  -- and their size
  abbrev pub PartsMissSize : Type 0
  PartsMissSize = (weight : K → ℕ) (c : ℕ) → SameWeights eq weight → IsOfParts (missed_size eq weight c) (total eq weight)

  -- a test by which keys that are the same pass alike
  abbrev pub IsOfKeys : (K → Bool) → Type 0
  IsOfKeys test = (x y : K) → eq x y ≡ true → test x ≡ test y

  -- of the requests for some of the keys, as a sample has them, both lists, the first and the latest ones are those of all
  pub record KeepsParts (test : K → Bool) : Type 0 where
    pub both : (one two : List K) → filter test (one ++ two) ≡ filter test one ++ filter test two
    pub first : (requests : List K) → firsts (filter test requests) ≡ filter test (firsts requests)
    pub latest : (requests : List K) → lasts (filter test requests) ≡ filter test (lasts requests)

  abbrev pub SamplesKeepParts : Type 0
  SamplesKeepParts = (test : K → Bool) → IsOfKeys test → KeepsParts test

module _ {K : Type 0} (eq : K → K → Bool) where
  -- two requests with times ask for one key
  abbrev pub is_same_key : K × ℕ → K × ℕ → Bool
  is_same_key r q = eq r.0 q.0

  -- under an idle limit, how many miss: the first and the latest requests have their times, and times may fall
  abbrev pub IdlePartsMiss : Type 0
  IdlePartsMiss = (k : ℕ) (idle : Option ℕ) → IsOfParts is_same_key (aged_misses eq (hit eq k) idle None) (distinct is_same_key)

  -- by size
  abbrev pub IdlePartsMissBySize : Type 0
  IdlePartsMissBySize = (weight : K → ℕ) (c : ℕ) (idle : Option ℕ) → SameWeights eq weight
      → IsOfParts is_same_key (aged_misses eq (hit_by_size eq weight c) idle None) (distinct is_same_key)

  -- the size of the requests that miss
  abbrev pub missed_size_in_idle : (K → ℕ) → ℕ → Option ℕ → List (K × ℕ) → ℕ
  missed_size_in_idle weight c idle requests =
      size_of_misses weight (aged_marks eq (hit_by_size eq weight c) idle None requests) (keys_of requests)

  abbrev pub IdlePartsMissSize : Type 0
  IdlePartsMissSize = (weight : K → ℕ) (c : ℕ) (idle : Option ℕ) → SameWeights eq weight
      → IsOfParts is_same_key (missed_size_in_idle weight c idle) (total is_same_key (λ r. weight r.0))
