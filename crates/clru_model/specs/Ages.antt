-- Requests with times, where entries expire: which of them hit. A request is a pair of a key and a time, in any unit. No cache is
-- in sight here. Public clauses cite them.
use Rattle.std.specs.Prelude.{◌≡◌, ℕ, ◌-◌, ◌≤◌, Bool, true, false, if◌then◌else◌, not, ◌&&◌, ⊤, nat_le, nat_eq, Option, None, List, [], ◌∷◌, map}
use Rattle.std.specs.List.{count_by}
use Rattle.std.specs.Map.{keys_of, lookup}
use Rattle.std.specs.Option.{option_map_or}
use Rattle.clru_model.specs.Distances.{distance, is_below}
use Rattle.clru_model.specs.Requests.{hit, marks, misses}
use Rattle.clru_model.specs.Sizes.{span, hit_by_size, marks_by_size}
use Rattle.clru_model.specs.Spans.{is_within}

-- a time span is at most the limit, if there is one
abbrev pub is_in_limit : Option ℕ → ℕ → Bool
is_in_limit limit n = option_map_or (λ most. nat_le n most) limit true

-- what is within the first limit is within the second
abbrev pub IsLimitBelow : Option ℕ → Option ℕ → Type 0
IsLimitBelow less more = (n : ℕ) → is_in_limit less n ≡ true → is_in_limit more n ≡ true

-- the times of requests never fall, and none is before the given one
abbrev pub NeverFall : {K : Type 0} → ℕ → List (K × ℕ) → Type 0
NeverFall start [] = ⊤
NeverFall start (r ∷ rs) = (start ≤ r.1) × NeverFall r.1 rs

module _ {K : Type 0} (eq : K → K → Bool) where
  -- the requests, the latest first, have one of the key of r, and r comes within the limit after the latest such one, or earlier
  abbrev pub is_recent : Option ℕ → K × ℕ → List (K × ℕ) → Bool
  is_recent limit r rs = option_map_or (λ time. is_in_limit limit (r.1 - time)) (lookup (eq r.0) rs) false

  -- with a test of hits without times, such as `hit eq k`, a greatest idle time and a greatest age
  module _ (hits : K → List K → Bool) (idle age : Option ℕ) where
    -- the key of r hits without times, and its latest request and its latest fetch are recent
    abbrev pub aged_hit : K × ℕ → (past fetches : List (K × ℕ)) → Bool
    aged_hit r past fetches = hits r.0 (keys_of past) && is_recent idle r past && is_recent age r fetches

    -- for each request in order whether it hits, after the requests of the past, of which the fetches did not, the latest first
    abbrev pub aged_marks_after : (past fetches rs : List (K × ℕ)) → List Bool
    aged_marks_after past fetches [] = []
    aged_marks_after past fetches (r ∷ rs) = if aged_hit r past fetches
        then true ∷ aged_marks_after (r ∷ past) fetches rs
        else false ∷ aged_marks_after (r ∷ past) (r ∷ fetches) rs

    -- for each request in order whether it hits
    abbrev pub aged_marks : List (K × ℕ) → List Bool
    aged_marks rs = aged_marks_after [] [] rs

    -- how many requests don't hit
    abbrev pub aged_misses : List (K × ℕ) → ℕ
    aged_misses rs = count_by not (aged_marks rs)

  -- for each request in order how far back the latest one of its key is, by this measure, unless that came too long before
  module _ (measure : K → List K → Option ℕ) (idle : Option ℕ) where
    abbrev pub reuses_after : (past rs : List (K × ℕ)) → List (Option ℕ)
    reuses_after past [] = []
    reuses_after past (r ∷ rs) = (if is_recent idle r past then measure r.0 (keys_of past) else None) ∷ reuses_after (r ∷ past) rs

    abbrev pub reuses_within : List (K × ℕ) → List (Option ℕ)
    reuses_within rs = reuses_after [] rs

  -- a recipe for an age limit: each key with its version, the number of its fetches, each where the one before is too old
  module _ (age : Option ℕ) where
    abbrev pub versioned_after : (fetches rs : List (K × ℕ)) → List (K × ℕ)
    versioned_after fetches [] = []
    versioned_after fetches (r ∷ rs) = if is_recent age r fetches
        then (r.0, count_by (eq r.0) (keys_of fetches)) ∷ versioned_after fetches rs
        else (r.0, count_by (eq r.0) (keys_of (r ∷ fetches))) ∷ versioned_after (r ∷ fetches) rs

    abbrev pub versioned : List (K × ℕ) → List (K × ℕ)
    versioned rs = versioned_after [] rs

  -- keys with a version are the same where both are
  abbrev pub is_same_version : K × ℕ → K × ℕ → Bool
  is_same_version p q = eq p.0 q.0 && nat_eq p.1 q.1

  -- without limits the marks are those of the keys
  abbrev pub UnlimitedMarksAreMarks : Type 0
  UnlimitedMarksAreMarks = (k : ℕ) (requests : List (K × ℕ))
      → aged_marks (hit eq k) None None requests ≡ marks eq k (keys_of requests)

  -- and so by size
  abbrev pub UnlimitedMarksAreMarksBySize : Type 0
  UnlimitedMarksAreMarksBySize = (weight : K → ℕ) (c : ℕ) (requests : List (K × ℕ))
      → aged_marks (hit_by_size eq weight c) None None requests ≡ marks_by_size eq weight c (keys_of requests)

  -- with an idle limit alone, a request that comes too late is as a first one, and the others have their distances
  abbrev pub IdleMarksAreBelow : Type 0
  IdleMarksAreBelow = (k : ℕ) (idle : Option ℕ) (requests : List (K × ℕ))
      → aged_marks (hit eq k) idle None requests ≡ map (is_below k) (reuses_within (distance eq) idle requests)

  -- or spans
  abbrev pub IdleMarksAreWithin : Type 0
  IdleMarksAreWithin = (weight : K → ℕ) (c : ℕ) (idle : Option ℕ) (requests : List (K × ℕ))
      → aged_marks (hit_by_size eq weight c) idle None requests ≡ map (is_within c) (reuses_within (span eq weight) idle requests)

  -- greater limits and a greater capacity have no more misses
  abbrev pub AgedMissesFall : Type 0
  AgedMissesFall = (k l : ℕ) (idle longer_idle age longer_age : Option ℕ) (requests : List (K × ℕ)) → k ≤ l
      → IsLimitBelow idle longer_idle → IsLimitBelow age longer_age
      → aged_misses (hit eq l) longer_idle longer_age requests ≤ aged_misses (hit eq k) idle age requests

  -- and so do a greater size and greater limits
  abbrev pub AgedMissesBySizeFall : Type 0
  AgedMissesBySizeFall = (weight : K → ℕ) (c d : ℕ) (idle longer_idle age longer_age : Option ℕ) (requests : List (K × ℕ)) → c ≤ d
      → IsLimitBelow idle longer_idle → IsLimitBelow age longer_age
      → aged_misses (hit_by_size eq weight d) longer_idle longer_age requests
      ≤ aged_misses (hit_by_size eq weight c) idle age requests

  -- if times never fall, the recipe has no fewer misses
  abbrev pub VersionsMissMore : Type 0
  VersionsMissMore = (k : ℕ) (age : Option ℕ) (requests : List (K × ℕ)) → NeverFall 0 requests
      → aged_misses (hit eq k) None age requests ≤ misses is_same_version k (versioned age requests)
