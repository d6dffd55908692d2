-- The times of fetches at some capacities, and what is missed there. Public clauses cite it.
use Rattle.std.specs.Prelude.{◌≡◌, ℕ, zero, suc, ◌+◌, ◌-◌, ◌<◌, ◌≤◌, ◌⊎◌, min, nat_le, ◌&&◌, Bool, if◌then◌else◌, List, [], ◌++◌, length, map, slice_index, refl}
use Rattle.std.specs.List.{range_with_len}
use Rattle.std.specs.Coded.{Coded, code_by, coded×, coded_ℕ}
use Rattle.clru_curve.specs.declared.fetches.Fetched.{Fetched}
use Rattle.clru_curve.specs.declared.fetches.Fetches.{Fetches}
use Rattle.clru_curve.specs.declared.seen.Seen.{Seen}
use Rattle.clru_curve.specs.Seen.{seen_code}

abbrev pub fetched_at : Seen → ℕ → Fetched
fetched_at s f = record { seen = s; first = f }

abbrev pub fetched_code : Coded Fetched
fetched_code = code_by (Seen × ℕ) (coded× seen_code coded_ℕ) (λ f. (f.seen, f.first)) (λ t. fetched_at t.0 t.1) (λ _. refl)

-- each key with its latest request
abbrev pub seens_of : {K : Type 0} → List (K × Fetched) → List (K × Seen)
seens_of entries = map (λ e. (e.0, e.1.seen)) entries

-- for each of so many keys as many numbers as capacities: that of the k-th key at the i-th capacity is `f k i`
abbrev pub rows_by : (f : ℕ → ℕ → ℕ) (n keys : ℕ) → List ℕ
rows_by f n zero = []
rows_by f n (suc k) = rows_by f n k ++ map (f k) (range_with_len 0 n)

-- the time of the k-th key at the i-th capacity, where its times begin at the k-th of `firsts`, and the last of them is that of all
-- later capacities too
abbrev pub time_at : (firsts widths times : List ℕ) → ℕ → ℕ → ℕ
time_at firsts widths times k i = slice_index times (slice_index firsts k + min i (slice_index widths k - 1))

-- the time of each key at each capacity
abbrev pub times_by : (n : ℕ) (firsts widths times : List ℕ) → List ℕ
times_by n firsts widths times = rows_by (time_at firsts widths times) n (length firsts)

-- each key has at least so many times as are narrow, no more than capacities, and all of its own; from so many on capacities ascend
pub record AreBlocks (narrow : ℕ) (capacities firsts widths times : List ℕ) : Type 0 where
  pub some : 0 < length capacities → 0 < narrow
  pub few : narrow ≤ length capacities
  pub ascend : (i j : ℕ) → narrow ≤ i + 1 → i ≤ j → j < length capacities → slice_index capacities i ≤ slice_index capacities j
  pub as_many : length widths ≡ length firsts
  pub wide : (k : ℕ) → k < length firsts → narrow ≤ slice_index widths k
  pub within : (k : ℕ) → k < length firsts → slice_index widths k ≤ length capacities
  pub inside : (k : ℕ) → k < length firsts → slice_index firsts k + slice_index widths k ≤ length times
  pub apart : (j k : ℕ) → j < k → k < length firsts → (slice_index firsts j + slice_index widths j ≤ slice_index firsts k)
      ⊎ (slice_index firsts k + slice_index widths k ≤ slice_index firsts j)

module _ {A : Type 0} where
  -- of fetches
  abbrev pub fetch_times : Fetches A → List ℕ
  fetch_times f = times_by (length f.capacities.items) f.firsts.items f.widths.items f.times.items

  abbrev pub AreBlocked : Fetches A → Type 0
  AreBlocked f = AreBlocks f.narrow f.capacities.items f.firsts.items f.widths.items f.times.items

-- whether a request of this span hits at the i-th capacity, where its key's times begin at `first`, if it comes soon enough
abbrev pub is_row_hit : (soon : Bool) (span time age first : ℕ) (capacities times : List ℕ) → ℕ → Bool
is_row_hit soon span time age first capacities times i =
    soon && (nat_le span (slice_index capacities i) && nat_le (time - slice_index times (first + i)) age)

-- of the first n numbers those grew by the amount where there is no hit
pub record AreCounted (hits : ℕ → Bool) (n amount : ℕ) (old new : List ℕ) : Type 0 where
  pub same_length : length new ≡ length old
  pub counted : (i : ℕ) → i < n → slice_index new i ≡ slice_index old i + (if hits i then 0 else amount)
  pub rest : (i : ℕ) → n ≤ i → slice_index new i ≡ slice_index old i

-- of n numbers from `first` on those became the time where there is no hit
pub record AreFetched (hits : ℕ → Bool) (n first time : ℕ) (old new : List ℕ) : Type 0 where
  pub same_length : length new ≡ length old
  pub fetched : (i : ℕ) → i < n → slice_index new (first + i) ≡ (if hits i then slice_index old (first + i) else time)
  pub below : (q : ℕ) → q < first → slice_index new q ≡ slice_index old q
  pub above : (q : ℕ) → first + n ≤ q → slice_index new q ≡ slice_index old q
