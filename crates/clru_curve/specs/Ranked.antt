-- The positions of keys among requests. Public clauses cite it.
use Rattle.std.specs.Prelude.{◌≡◌, ℕ, suc, ◌+◌, ◌<◌, ◌≤◌, Bool, List, length, is_some, Some}
use Rattle.std.specs.Map.{lookup}
use Rattle.clru_model.specs.Requests.{holds, since}

-- after n requests, the latest first: each key that was requested has the number of its latest request, where its size is
-- counted, and after it f counts what the requests since then measure
pub record IsRanked {K : Type 0} (eq : K → K → Bool) (size : K → ℕ) (measure : List K → ℕ)
    (past : List K) (positions : List (K × ℕ)) (n : ℕ) (f : ℕ → ℕ) : Type 0 where
  pub known : (x : K) → is_some (lookup (eq x) positions) ≡ holds eq x past
  pub before : (x : K) (p : ℕ) → lookup (eq x) positions ≡ Some p → p < n
  pub latest : (x : K) (p : ℕ) → lookup (eq x) positions ≡ Some p → f p ≡ size x + f (suc p)
  pub rank : (x : K) (p : ℕ) → lookup (eq x) positions ≡ Some p → f (suc p) ≡ measure (since eq x past)
  pub falls : (p : ℕ) → f (suc p) ≤ f p
  pub none : f n ≡ 0
  pub few : length positions ≤ n
