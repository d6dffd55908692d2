-- What a pass over a whole list looks up before it counts. No public clause cites it.
use Rattle.std.specs.Prelude.{◌≡◌, ℕ, ◌+◌, ◌<◌, ◌≤◌, Bool, List, length, reverse, take, slice_get, slice_index_or, Option, None, Some}
use Rattle.std.specs.Map.{lookup}
use Rattle.clru_model.specs.Requests.{IsLatestOf, distinct}
use Rattle.clru_curve.specs.declared.ahead.Ahead.{Ahead}
use Rattle.clru_curve.specs.LatestSizes.{live_from}
use Rattle.clru_curve.specs.Ranked.{IsRanked}
use Rattle.clru_curve.specs.SizedPositionPasses.{CountedBySize}
use Rattle.clru_curve.specs.Tree.{up_to}

-- 1 at the numbers up to that of a request, if there is one
abbrev pub up_to_some : Option ℕ → ℕ → ℕ
up_to_some None t = 0
up_to_some (Some p) t = up_to t p

-- one more request has a size, and the latest one of its key before it has none any more
pub record HasMoved (latest : Option ℕ) (before after : CountedBySize) : Type 0 where
  pub sizes : (t : ℕ) → live_from after.sizes t + up_to_some latest t ≡ live_from before.sizes t + up_to t before.requests
  pub requests : after.requests ≡ before.requests + 1

abbrev pub nothing : Ahead
nothing = record { latest = None; weight = 0 }

module _ {K : Type 0} (eq : K → K → Bool) where
  -- each key has the position of its latest request
  pub record ArePlaced (past : List K) (positions : List (K × ℕ)) : Type 0 where
    pub latest : (x : K) → IsLatestOf eq past x (lookup (eq x) positions)
    pub few : length positions ≤ length past

  -- whatever keys weigh, the latest request of each has a size
  pub record HoldsLatest (past : List K) (c : CountedBySize) : Type 0 where
    pub positions : List (K × ℕ)
    pub placed : ArePlaced past positions
    pub ranked : IsRanked eq (λ x. 1) (distinct eq) past positions c.requests (live_from c.sizes)
    pub requests : c.requests ≡ length past

  -- of each request from the first to before the end the position of the latest request of its key was found
  abbrev pub AreLatest : List K → ℕ → ℕ → List Ahead → Type 0
  AreLatest keys first end ahead = (j : ℕ) (x : K) → first + j < end → slice_get keys (first + j) ≡ Some x
      → IsLatestOf eq (reverse (take (first + j) keys)) x (slice_index_or ahead j nothing).latest

-- and the weight of its key
abbrev pub HaveWeights : {K : Type 0} → (K → ℕ) → List K → ℕ → ℕ → List Ahead → Type 0
HaveWeights {K = K} weight keys first end ahead = (j : ℕ) (x : K) → first + j < end → slice_get keys (first + j) ≡ Some x
    → weight x ≡ (slice_index_or ahead j nothing).weight
