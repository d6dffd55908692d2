-- The statements of the laws. Public clauses cite them.
use Rattle.std.specs.Prelude.{◌≡◌, ◌↔◌, ℕ, ◌+◌, ◌≤◌, Bool, true, false, not, Some, List, [], ◌∷◌, ◌++◌, length, reverse}
use Rattle.std.specs.List.{slice_get, filter, count_by}
use Rattle.clru_model.specs.Entries.{fit, IsLongestFit}
use Rattle.clru_model.specs.Requests.{distinct, marks, misses}
use Rattle.clru_model.specs.Runs.{Call, after_all, AreTaken, IsRunOf, IsGetOr, IsPut, IsPutRun, drops, held_before}
use Rattle.clru_model.specs.Schedule.{IsSchedule, schedule_marks, schedule_misses, IsCompetitive, IsCompetitiveFromAnyStart}
use Rattle.clru_model.specs.ByPosition.{IsCountOf, IsFirstAt, IsHitAt, IsScheduleAt, IsScheduleMissAt}

module _ {K : Type 0} (eq : K → K → Bool) where
  -- the mark at i is true exactly where the request at i hits
  abbrev pub TrueMarksAreHits : Type 0
  TrueMarksAreHits = (k i : ℕ) (requests : List K)
      → (slice_get (marks eq k requests) i ≡ Some true) ↔ IsHitAt eq k requests i

  -- there is a mark for each request
  abbrev pub OneMarkForEach : Type 0
  OneMarkForEach = (k : ℕ) (requests : List K) → length (marks eq k requests) ≡ length requests

  -- the misses are the false marks
  abbrev pub MissesAreFalseMarks : Type 0
  MissesAreFalseMarks = (k : ℕ) (requests : List K)
      → IsCountOf (λ i. slice_get (marks eq k requests) i ≡ Some false) (misses eq k requests)

  -- `distinct`, which takes requests the latest first, counts the positions at which a key stands first
  abbrev pub DistinctCountsFirst : Type 0
  DistinctCountsFirst = (requests : List K) → IsCountOf (IsFirstAt eq requests) (distinct eq (reverse requests))

  -- the schedules are the schedules by positions
  abbrev pub SchedulesAreByPosition : Type 0
  SchedulesAreByPosition = (h : ℕ) (held : List (List K)) (requests : List K)
      → IsSchedule eq h held requests ↔ IsScheduleAt eq h held requests

  -- a schedule's mark at i is false exactly where it misses the request at i
  abbrev pub FalseMarksAreMisses : Type 0
  FalseMarksAreMisses = (held : List (List K)) (requests : List K) (i : ℕ)
      → (slice_get (schedule_marks eq held requests) i ≡ Some false) ↔ IsScheduleMissAt eq held requests i

  -- a schedule's misses are the requests that it misses
  abbrev pub ScheduleMissesAreByPosition : Type 0
  ScheduleMissesAreByPosition = (held : List (List K)) (requests : List K)
      → IsCountOf (IsScheduleMissAt eq held requests) (schedule_misses eq held requests)

  -- a request that hits at a capacity hits at each greater one
  abbrev pub HitsGrow : Type 0
  HitsGrow = (k l i : ℕ) (requests : List K) → k ≤ l → slice_get (marks eq k requests) i ≡ Some true
      → slice_get (marks eq l requests) i ≡ Some true

  -- a greater capacity has no more misses
  abbrev pub MissesFall : Type 0
  MissesFall = (k l : ℕ) (requests : List K) → k ≤ l → misses eq l requests ≤ misses eq k requests

  -- two lists in a row have no more misses than each from an empty cache
  abbrev pub CutsMissMore : Type 0
  CutsMissMore = (k : ℕ) (first second : List K) → misses eq k (first ++ second) ≤ misses eq k first + misses eq k second

  -- and at most the capacity fewer
  abbrev pub CutsMissFewMore : Type 0
  CutsMissFewMore = (k : ℕ) (first second : List K)
      → misses eq k first + misses eq k second ≤ misses eq k (first ++ second) + k

  -- the requests for some of the keys, by a test that keys that are the same pass alike, have no more misses than all
  abbrev pub SomeKeysMissLess : Type 0
  SomeKeysMissLess = (k : ℕ) (test : K → Bool) (requests : List K) → ((x y : K) → eq x y ≡ true → test x ≡ test y)
      → misses eq k (filter test requests) ≤ misses eq k requests

module _ (K V : Type 0) where
  -- `fit` is the longest beginning that fits
  abbrev pub FitIsLongest : Type 0
  FitIsLongest = (weight : K → V → ℕ) (c : ℕ) (es : List (K × V)) → IsLongestFit weight c es (fit weight c es)

  -- no other beginning is
  abbrev pub OnlyFitIsLongest : Type 0
  OnlyFitIsLongest = (weight : K → V → ℕ) (c : ℕ) (es p : List (K × V))
      → IsLongestFit weight c es p → p ≡ fit weight c es

module _ {K : Type 0} (eq : K → K → Bool) (V : Type 0) where
  -- calls on two empty lists, of which the lesser capacity takes each: the list that they leave there begins the one that
  -- they leave at the greater capacity
  abbrev pub LesserBeginsGreater : Type 0
  LesserBeginsGreater = (weight : K → V → ℕ) (c d : ℕ) (calls : List (Call K V)) → c ≤ d → AreTaken weight c calls
      → (rest : List (K × V)) × (after_all eq weight d calls [] ≡ after_all eq weight c calls [] ++ rest)

  -- a run of puts from the empty list holds a key before its put exactly where the request hits
  abbrev pub PutsHit : Type 0
  PutsHit = (k : ℕ) (requests : List K) (later : List (List (K × V))) → 1 ≤ k → IsPutRun eq k ([] ∷ later) requests
      → held_before eq ([] ∷ later) requests ≡ marks eq k requests

  -- the puts whose key is not held before them keep the bound beside schedules that start empty
  abbrev pub PutsCompete : Type 0
  PutsCompete = (k : ℕ) (requests : List K) (later : List (List (K × V))) → 1 ≤ k → IsPutRun eq k ([] ∷ later) requests
      → IsCompetitive eq k requests (count_by not (held_before eq ([] ∷ later) requests))

  -- and that beside schedules that start with any keys
  abbrev pub PutsCompeteFromAnyStart : Type 0
  PutsCompeteFromAnyStart = (k : ℕ) (requests : List K) (later : List (List (K × V)))
      → 1 ≤ k → IsPutRun eq k ([] ∷ later) requests
      → IsCompetitiveFromAnyStart eq k requests (count_by not (held_before eq ([] ∷ later) requests))

  -- a run of look-ups, each followed by a put where it finds nothing, is a run of puts
  abbrev pub GetsOrPutsArePuts : Type 0
  GetsOrPutsArePuts = (k : ℕ) (requests : List K) (run : List (List (K × V)))
      → IsRunOf (IsGetOr (IsPut eq k) eq) run requests → IsPutRun eq k run requests

  -- what plain puts drop in a run from the empty list, and what they leave, is as much as misses
  abbrev pub DropsAreMissesNotLeft : Type 0
  DropsAreMissesNotLeft = (k : ℕ) (requests : List K) (later : List (List (K × V))) (left : List (K × V))
      → 1 ≤ k → IsPutRun eq k ([] ∷ later) requests → slice_get ([] ∷ later) (length requests) ≡ Some left
      → drops eq k ([] ∷ later) requests + length left ≡ misses eq k requests
