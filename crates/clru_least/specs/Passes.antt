-- What a pass has taken, request by request. Public clauses cite it.
use Rattle.std.specs.Prelude.{◌≡◌, ℕ, ◌+◌, ◌^◌, ◌<◌, Bool, true, ◌==◌, if◌then◌else◌, List, [], ◌∷◌, length, reverse}
use Rattle.clru_list.specs.Packed.{Packed, greatest_by}
use Rattle.clru_model.specs.Requests.{holds}
use Rattle.clru_least.specs.Next.{until}

-- the position of the next request, or the end where there is none
abbrev pub next_or : ℕ → ℕ → ℕ
next_or end later = if later == 0 then end else later

module _ {K : Type 0} (eq : K → K → Bool) where
  -- the position of the next request of x, which is requested at the position i and then by the requests rs, and 0 where it is not
  abbrev pub later_at : ℕ → K → List K → ℕ
  later_at i x rs = if holds eq x rs then i + 1 + until eq x rs else 0

  -- the same for each of the requests, which begin at the position i
  abbrev pub later_from : ℕ → List K → List ℕ
  later_from i [] = []
  later_from i (x ∷ rs) = later_at i x rs ∷ later_from (i + 1) rs

  -- a pass that has taken these requests, the latest first
  abbrev pub IsForesight : List K → List ℕ → Type 0
  IsForesight past later = later ≡ later_from 0 (reverse past)

  -- what holds of every pass: it has taken some requests, and fewer than 2^32 take 4 bytes each
  pub record IsSound (later : Packed) : Type 0 where
    pub past : List K
    pub taken : IsForesight past later.numbers
    pub narrow : length later.numbers < 2 ^ 32 → later.greatest ≡ greatest_by true
