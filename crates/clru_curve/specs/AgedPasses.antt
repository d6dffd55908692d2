-- What a pass over requests with times under an age limit has taken note of. Public clauses cite it.
use Rattle.std.specs.Prelude.{ℕ, Bool, Option, Some, List}
use Rattle.clru_model.specs.Ages.{aged_misses}
use Rattle.clru_model.specs.Requests.{hit}
use Rattle.clru_curve.specs.SizedAgedPasses.{AgedPassBySize, IsSizedAgedPass}

module _ {K : Type 0} (eq : K → K → Bool) (idle : Option ℕ) (age : ℕ) where
  -- how many of the requests miss at the capacity k under these limits
  abbrev pub aged_misses_at : ℕ → List (K × ℕ) → ℕ
  aged_misses_at k requests = aged_misses eq (hit eq k) idle (Some age) requests

module _ {K : Type 0} (eq : K → K → Bool) where
  -- a pass with these capacities and limits that has taken these requests, the latest first: one by size, where each key weighs 0
  abbrev pub IsAgedPass : {S : Type 0} → List ℕ → Option ℕ → ℕ → List (K × ℕ) → AgedPassBySize K S → Type 0
  IsAgedPass capacities idle age past p = IsSizedAgedPass eq (λ _. 0) capacities idle age past p
