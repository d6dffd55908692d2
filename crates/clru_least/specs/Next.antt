-- The next request of the key of each request.
use Rattle.std.specs.Prelude.{ℕ, suc, ◌+◌, Bool, if◌then◌else◌, List, [], ◌∷◌}

module _ {K : Type 0} (eq : K → K → Bool) where
  -- how many requests come before the first one of x, all of them if there is none
  abbrev pub until : K → List K → ℕ
  until x [] = 0
  until x (y ∷ rs) = if eq x y then 0 else suc (until x rs)

  -- for each of the requests, which begin at the position i, the position of the next one of its key, the end where there is none
  abbrev pub next_from : ℕ → List K → List ℕ
  next_from i [] = []
  next_from i (x ∷ rs) = (i + 1 + until x rs) ∷ next_from (i + 1) rs
