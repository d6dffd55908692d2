-- What one more curve makes of the least that misses at each number of units, and the choices that lead to it. No public
-- clause cites it.
use Rattle.std.specs.Prelude.{◌≡◌, ℕ, ◌+◌, ◌-◌, ◌*◌, ◌<◌, ◌≤◌, List, [], ◌∷◌, ◌++◌, length, slice_index, Option, Some}
use Rattle.clru_curve.specs.Splits.{total_missed, IsBestSplit, IsFirstBest}

-- v is the least sum of the price of some units, of n, and of what is before at the others; x units have it, and no fewer
pub record IsMinimum (price : ℕ → Option ℕ) (before : List ℕ) (n v x : ℕ) : Type 0 where
  pub within : x ≤ n
  pub attained : (p : ℕ) × (price x ≡ Some p) × (v ≡ p + slice_index before (n - x))
  pub least : (y p : ℕ) → y ≤ n → price y ≡ Some p → v ≤ p + slice_index before (n - y)
  pub first : (y p : ℕ) → y < x → price y ≡ Some p → v < p + slice_index before (n - y)

module _ {C : Type 0} (all : C → ℕ) (missed : C → ℕ → Option ℕ) (step : ℕ) where
  -- a best split within n units misses v
  pub record IsLeastAt (cs : List C) (n v : ℕ) : Type 0 where
    pub capacities : List ℕ
    pub best : IsBestSplit all missed step (n * step) cs capacities
    pub total : total_missed all missed cs capacities ≡ v

  -- what a best split misses within 0 units, 1, and so on
  abbrev pub IsRow : List C → List ℕ → Type 0
  IsRow cs row = (j : ℕ) → j < length row → IsLeastAt cs j (slice_index row j)

  -- x units for c, of n, go before each best split of the others among the rest
  pub record Leads (c : C) (cs : List C) (n x : ℕ) : Type 0 where
    pub within : x ≤ n
    pub best : (ks : List ℕ) → IsBestSplit all missed step ((n - x) * step) cs ks
        → IsBestSplit all missed step (n * step) (c ∷ cs) (x * step ∷ ks)
    pub first : (ks : List ℕ) → IsBestSplit all missed step ((n - x) * step) cs ks → IsFirstBest all missed step ((n - x) * step) cs ks
        → IsFirstBest all missed step (n * step) (c ∷ cs) (x * step ∷ ks)

  -- for each curve, the last one first, the units that lead to a best split, at each number of units below w
  abbrev pub AreChoices : ℕ → List C → List ℕ → Type 0
  AreChoices w [] ys = ys ≡ []
  AreChoices w (c ∷ cs) ys = (before : List ℕ) × (row : List ℕ) × (ys ≡ before ++ row) × (length row ≡ w)
      × AreChoices w cs before × ((j : ℕ) → j < w → Leads c cs j (slice_index row j))
