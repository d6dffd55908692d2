-- What stands in arrays of answers. Public clauses cite them.
use Rattle.std.specs.Prelude.{◌≡◌, ℕ, suc, ◌<◌, ◌≤◌, Bool, List, [], ◌∷◌, length, slice_index, reverse}
use Rattle.clru_model.specs.Requests.{distinct, marks, misses}
use Rattle.clru_model.specs.Floor.{floor_misses, floor_missed_size, IsBypassScheduleBySize}
use Rattle.clru_model.specs.Schedule.{schedule_misses, IsCompetitive, IsCompetitiveFromAnyStart}
use Rattle.clru_model.specs.SizedSchedule.{schedule_missed_size}
use Rattle.clru_model.specs.Least.{IsLeast, IsNearFromAnyStart}

-- at each index below n stands a number of which P holds at that index
abbrev pub AreBelow : (ℕ → ℕ → Type 0) → List ℕ → ℕ → Type 0
AreBelow P array n = (i : ℕ) → i < n → P i (slice_index array i)

module _ {K : Type 0} (eq : K → K → Bool) where
  -- for each request whether it hits at the capacity, and how many don't
  pub record AreHits (capacity : ℕ) (requests : List K) (array : List Bool) (n : ℕ) : Type 0 where
    pub hits : array ≡ marks eq capacity requests
    pub missed : n ≡ misses eq capacity requests
    pub bound : IsCompetitive eq capacity requests n
    pub bound_any_start : IsCompetitiveFromAnyStart eq capacity requests n

  -- at each index the misses at the capacity one above it: at capacity 1, 2 and so on
  abbrev pub AreMisses : List K → List ℕ → Type 0
  AreMisses requests array = AreBelow (λ i n. n ≡ misses eq (suc i) requests) array (length array)

  -- these, and the number of distinct keys
  pub record IsCurve (requests : List K) (array : List ℕ) (n : ℕ) : Type 0 where
    pub missed : AreMisses requests array
    pub distinct_keys : n ≡ distinct eq (reverse requests)

  -- what is known of the least number of misses n for a room
  pub record IsLeastOf (requests : List K) (room n : ℕ) : Type 0 where
    pub least : IsLeast eq room requests n
    pub any_start : IsNearFromAnyStart eq room requests n
    pub beside_lru : n ≤ misses eq room requests

  -- at each index the least number of misses for the room at that index
  abbrev pub AreLeast : List K → List ℕ → List ℕ → Type 0
  AreLeast requests rooms array = AreBelow (λ i n. IsLeastOf requests (slice_index rooms i) n) array (length array)

  module _ (weight : K → ℕ) where
    -- what is known of a floor n of the misses, where the keys held have room for this size together
    pub record IsFloorFor (requests : List K) (room n : ℕ) : Type 0 where
      pub exact : n ≡ floor_misses eq weight room requests
      pub none_fewer : (schedule : List (List K)) → IsBypassScheduleBySize eq weight room ([] ∷ schedule) requests
          → n ≤ schedule_misses eq ([] ∷ schedule) requests

    -- what is known of a floor n of the missed size
    pub record IsSizeFloorFor (requests : List K) (room n : ℕ) : Type 0 where
      pub exact : n ≡ floor_missed_size eq weight room requests
      pub none_less : (schedule : List (List K)) → IsBypassScheduleBySize eq weight room ([] ∷ schedule) requests
          → n ≤ schedule_missed_size eq weight ([] ∷ schedule) requests

    -- at each index a floor of the misses for the room at that index
    abbrev pub AreFloors : List K → List ℕ → List ℕ → Type 0
    AreFloors requests rooms array = AreBelow (λ i n. IsFloorFor requests (slice_index rooms i) n) array (length array)

    -- at each index a floor of the missed size for the room at that index
    abbrev pub AreSizeFloors : List K → List ℕ → List ℕ → Type 0
    AreSizeFloors requests rooms array = AreBelow (λ i n. IsSizeFloorFor requests (slice_index rooms i) n) array (length array)
