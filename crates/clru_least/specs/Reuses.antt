-- What a pass for a floor has taken, request by request. Public clauses cite it.
use Rattle.std.specs.Prelude.{◌≡◌, ℕ, ◌+◌, ◌*◌, ◌^◌, ◌<◌, ◌≤◌, Bool, if◌then◌else◌, List, [], ◌∷◌, length, reverse, All, refl, ⊤}
use Rattle.std.specs.Coded.{Coded, code_by, coded×, coded_list, coded_ℕ}
use Rattle.std.specs.List.{sum_by}
use Rattle.clru_model.specs.Floor.{gap}
use Rattle.clru_model.specs.Requests.{holds}
use Rattle.clru_least.specs.declared.reuse.Reuse.{Reuse}
use Rattle.clru_least.specs.declared.floor_error.FloorRequestError.{FloorRequestError}
use Rattle.clru_least.specs.declared.floor_error.FloorRequestError.TheVariants.{NoMemory, TooLarge}

abbrev pub reuse : ℕ → ℕ → Reuse
reuse g s = record { gap = g; size = s }

abbrev pub reuse_code : Coded Reuse
reuse_code = code_by (ℕ × ℕ) (coded× coded_ℕ coded_ℕ) (λ r. (r.gap, r.size)) (λ t. reuse t.0 t.1) (λ _. refl)

-- the room that a hit takes
abbrev pub volume_of : Reuse → ℕ
volume_of r = r.gap * r.size

-- the requests whose key came before; the number of all requests, and their size
pub record Reused : Type 0 where
  pub reuses : List Reuse
  pub requests : ℕ
  pub size : ℕ

abbrev pub reused : List Reuse → ℕ → ℕ → Reused
reused rs n a = record { reuses = rs; requests = n; size = a }

abbrev pub reused_code : Coded Reused
reused_code = code_by (List Reuse × (ℕ × ℕ)) (coded× (coded_list reuse_code) (coded× coded_ℕ coded_ℕ))
    (λ p. (p.reuses, (p.requests, p.size))) (λ t. reused t.0 t.1.0 t.1.1) (λ _. refl)

-- the sizes of all requests are too large for a number
abbrev pub IsTooLarge : FloorRequestError → Type 0
IsTooLarge NoMemory = ⊥
IsTooLarge TooLarge = ⊤

module _ {K : Type 0} (eq : K → K → Bool) (weight : K → ℕ) where
  -- each request whose key came before, after the requests of the past, the latest first
  abbrev pub reuses_after : List K → List K → List Reuse
  reuses_after past [] = []
  reuses_after past (x ∷ rs) = if holds eq x past then reuse (gap eq x past) (1 + weight x) ∷ reuses_after (x ∷ past) rs
      else reuses_after (x ∷ past) rs

  -- a pass that has taken these requests, the latest first
  pub record IsFloorPass (past : List K) (p : Reused) : Type 0 where
    pub reuses : p.reuses ≡ reuses_after [] (reverse past)
    pub requests : p.requests ≡ length past
    pub size : p.size ≡ sum_by (λ x. 1 + weight x) past

-- what holds of every pass, whatever the keys weighed: no sum of volumes passes the requests times their size
pub record IsSoundFloor (p : Reused) : Type 0 where
  pub gaps : All (λ r. 1 ≤ r.gap) p.reuses
  pub near : All (λ r. r.gap ≤ p.requests) p.reuses
  pub few : length p.reuses ≤ p.requests
  pub sizes : sum_by (λ r. r.size) p.reuses ≤ p.size
  pub many : p.requests ≤ p.size
  pub fits : p.size < 2 ^ 64
