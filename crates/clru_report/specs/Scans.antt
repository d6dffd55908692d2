-- What is found while the capacities between two rows are looked at, and how rows are added. No public clause cites it.
use Rattle.std.specs.Prelude.{◌≡◌, ℕ, ◌-◌, ◌<◌, ◌≤◌, Bool, true, false, List, ◌∷◌, ◌++◌}
use Rattle.clru_curve.specs.SizedCurves.{CurveBySize, hits_within, size_after}
use Rattle.clru_report.specs.Faithful.{AreAdded}

-- of the numbers from a up to k the one at which f is greatest, the least of several; all are below b
pub record IsGreatestOf (f : ℕ → ℕ) (a b k best most : ℕ) : Type 0 where
  pub is : most ≡ f best
  pub low : a ≤ best
  pub high : best < b
  pub covered : (y : ℕ) → a ≤ y → y < k → f y ≤ most
  pub first : (y : ℕ) → a ≤ y → y < best → f y < most

-- from a to b come these rows, the last of which is b
abbrev pub LeadTo : (ℕ → ℕ) → ℕ → ℕ → ℕ → List ℕ → Type 0
LeadTo misses whole a b rows = (bs cs : List ℕ) → AreAdded misses whole b bs cs → AreAdded misses whole a (b ∷ bs) (rows ++ cs)

-- what misses after the first k steps: requests, or their bytes
abbrev pub missing_after : Bool → CurveBySize → ℕ → ℕ
missing_after false curve k = curve.requests - k
missing_after true curve k = size_after curve.size curve.steps k

-- what misses at the capacity c
abbrev pub missing_within : Bool → CurveBySize → ℕ → ℕ
missing_within bytes curve c = missing_after bytes curve (hits_within c curve.steps)
