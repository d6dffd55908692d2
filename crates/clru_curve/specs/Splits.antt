-- Capacities for several curves within one budget, and the best of them. Public clauses cite them.
use Rattle.std.specs.Prelude.{◌≡◌, ◌⊎◌, ℕ, zero, suc, ◌+◌, ◌*◌, ◌<◌, ◌≤◌, List, [], ◌∷◌, sum, Option, Some, unwrap_or, IsSome, ⊤}

-- the first number that differs is less than its partner
abbrev pub ComesFirst : List ℕ → List ℕ → Type 0
ComesFirst [] ks = ⊤
ComesFirst (j ∷ js) [] = ⊥
ComesFirst (j ∷ js) (k ∷ ks) = (j < k) ⊎ ((j ≡ k) × ComesFirst js ks)

module _ {C : Type 0} (all : C → ℕ) (missed : C → ℕ → Option ℕ) where
  -- what misses at a capacity, where the curve has a number: with no room all does
  abbrev pub missed_at : C → ℕ → Option ℕ
  missed_at c zero = Some (all c)
  missed_at c (suc k) = missed c (suc k)

  -- a multiple of the step at which the curve has a number
  pub record IsPart (step : ℕ) (c : C) (k : ℕ) : Type 0 where
    pub units : ℕ
    pub multiple : k ≡ units * step
    pub has_number : IsSome (missed_at c k)

  -- a capacity for each curve
  abbrev pub AreParts : ℕ → List C → List ℕ → Type 0
  AreParts step [] [] = ⊤
  AreParts step [] (k ∷ ks) = ⊥
  AreParts step (c ∷ cs) [] = ⊥
  AreParts step (c ∷ cs) (k ∷ ks) = IsPart step c k × AreParts step cs ks

  -- what misses at all the capacities together
  abbrev pub total_missed : List C → List ℕ → ℕ
  total_missed [] ks = 0
  total_missed (c ∷ cs) [] = 0
  total_missed (c ∷ cs) (k ∷ ks) = unwrap_or (missed_at c k) 0 + total_missed cs ks

  -- capacities for the curves, in multiples of the step, that are together within the budget
  pub record IsSplit (step budget : ℕ) (curves : List C) (capacities : List ℕ) : Type 0 where
    pub parts : AreParts step curves capacities
    pub within : sum capacities ≤ budget

  -- a split, and none misses less in total
  pub record IsBestSplit (step budget : ℕ) (curves : List C) (capacities : List ℕ) : Type 0 where
    pub split : IsSplit step budget curves capacities
    pub least : (others : List ℕ) → IsSplit step budget curves others
        → total_missed curves capacities ≤ total_missed curves others

  -- it comes before each best split: the one with the least first capacity, of those the one with the least second, and so on
  abbrev pub IsFirstBest : ℕ → ℕ → List C → List ℕ → Type 0
  IsFirstBest step budget curves capacities = (others : List ℕ) → IsBestSplit step budget curves others → ComesFirst capacities others
