-- A floor of misses as one counts it by hand. Public clauses cite it.
use Rattle.std.specs.Prelude.{◌≡◌, ℕ, ◌+◌, ◌-◌, ◌*◌, nat_le, Bool, if◌then◌else◌, List, [], ◌∷◌, length}
use Rattle.std.specs.List.Sorted.{IsPermutation, IsNonDecreasingBy}
use Rattle.clru_model.specs.Floor.{floor_misses, volumes_after}

-- how many of these numbers, from the first on, are together at most b
abbrev pub fitting : ℕ → List ℕ → ℕ
fitting b [] = 0
fitting b (v ∷ vs) = if nat_le v b then 1 + fitting (b - v) vs else 0

-- the requests less the most hits whose volumes, the least first, are together at most the room times the requests
abbrev pub FloorIsGreedy : {K : Type 0} → (K → K → Bool) → Type 0
FloorIsGreedy {K} eq = (weight : K → ℕ) (h : ℕ) (requests : List K) (volumes : List ℕ)
    → IsPermutation (volumes_after eq weight [] requests) volumes → IsNonDecreasingBy (λ v. v) volumes
    → floor_misses eq weight h requests ≡ length requests - fitting (h * length requests) volumes
