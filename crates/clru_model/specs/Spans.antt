-- The laws of requests by size: what their spans say, and how sizes stand beside numbers of keys. Public clauses cite them.
use Rattle.std.specs.Prelude.{◌≡◌, ℕ, suc, ◌+◌, ◌≤◌, Bool, true, false, if◌then◌else◌, nat_le, Option, Some, List, [], ◌∷◌, map, reverse}
use Rattle.std.specs.List.{slice_get}
use Rattle.std.specs.Option.{option_map, option_map_or}
use Rattle.clru_model.specs.Distances.{distance}
use Rattle.clru_model.specs.Requests.{distinct, marks, misses}
use Rattle.clru_model.specs.Sizes.{SameWeights, total, span, spans, hit_by_size, marks_by_size, misses_by_size, missed_size}

-- a span is there and is at most c
abbrev pub is_within : ℕ → Option ℕ → Bool
is_within c s = option_map_or (λ n. nat_le n c) s false

-- the size of the requests whose mark is false
abbrev pub size_of_misses : {K : Type 0} → (K → ℕ) → List Bool → List K → ℕ
size_of_misses weight [] requests = 0
size_of_misses weight (mark ∷ ms) [] = 0
size_of_misses weight (mark ∷ ms) (x ∷ rs) = (if mark then 0 else 1 + weight x) + size_of_misses weight ms rs

module _ {K : Type 0} (eq : K → K → Bool) where
  -- a request hits at the sizes from its span on, and at no other
  abbrev pub HitsAreWithin : Type 0
  HitsAreWithin = (weight : K → ℕ) (c : ℕ) (x : K) (past : List K)
      → hit_by_size eq weight c x past ≡ is_within c (span eq weight x past)

  -- and so the marks at a size are those of the spans
  abbrev pub MarksAreWithin : Type 0
  MarksAreWithin = (weight : K → ℕ) (c : ℕ) (requests : List K)
      → marks_by_size eq weight c requests ≡ map (is_within c) (spans eq weight requests)

  -- the size that is missed is that of the requests whose mark is false
  abbrev pub MissedSizeIsOfMarks : Type 0
  MissedSizeIsOfMarks = (weight : K → ℕ) (c : ℕ) (requests : List K)
      → missed_size eq weight c requests ≡ size_of_misses weight (marks_by_size eq weight c requests) requests

  -- a request that hits at a size hits at each greater one
  abbrev pub HitsBySizeGrow : Type 0
  HitsBySizeGrow = (weight : K → ℕ) (c d i : ℕ) (requests : List K) → c ≤ d
      → slice_get (marks_by_size eq weight c requests) i ≡ Some true
      → slice_get (marks_by_size eq weight d requests) i ≡ Some true

  -- a greater size has no more misses
  abbrev pub MissesBySizeFall : Type 0
  MissesBySizeFall = (weight : K → ℕ) (c d : ℕ) (requests : List K) → c ≤ d
      → misses_by_size eq weight d requests ≤ misses_by_size eq weight c requests

  -- nor misses more of the size
  abbrev pub MissedSizeFalls : Type 0
  MissedSizeFalls = (weight : K → ℕ) (c d : ℕ) (requests : List K) → c ≤ d
      → missed_size eq weight d requests ≤ missed_size eq weight c requests

  -- at a size with room for all keys there are as many misses as distinct keys, and their size is missed
  abbrev pub RoomForTotalMissesFirst : Type 0
  RoomForTotalMissesFirst = (weight : K → ℕ) (c : ℕ) (requests : List K) → SameWeights eq weight
      → total eq weight (reverse requests) ≤ c
      → (misses_by_size eq weight c requests ≡ distinct eq (reverse requests))
      × (missed_size eq weight c requests ≡ total eq weight (reverse requests))

  -- where each key weighs 0, a size is a number of keys
  abbrev pub WeightlessTotalIsDistinct : Type 0
  WeightlessTotalIsDistinct = (weight : K → ℕ) (past : List K) → ((k : K) → weight k ≡ 0)
      → total eq weight past ≡ distinct eq past

  -- and the marks by size are those of the capacity
  abbrev pub WeightlessMarksAreMarks : Type 0
  WeightlessMarksAreMarks = (weight : K → ℕ) (c : ℕ) (requests : List K) → ((k : K) → weight k ≡ 0)
      → marks_by_size eq weight c requests ≡ marks eq c requests

  -- and the size that is missed is the number of misses
  abbrev pub WeightlessMissedSizeIsMisses : Type 0
  WeightlessMissedSizeIsMisses = (weight : K → ℕ) (c : ℕ) (requests : List K) → ((k : K) → weight k ≡ 0)
      → missed_size eq weight c requests ≡ misses eq c requests

  -- and a span is 1 more than the distance
  abbrev pub WeightlessSpanIsDistance : Type 0
  WeightlessSpanIsDistance = (weight : K → ℕ) (x : K) (past : List K) → ((k : K) → weight k ≡ 0)
      → span eq weight x past ≡ option_map suc (distance eq x past)
