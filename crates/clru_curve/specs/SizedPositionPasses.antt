-- What a pass that holds no key has taken of requests with times of keys with sizes, one by one. Public clauses cite it.
use Rattle.std.specs.Prelude.{◌≡◌, ℕ, ◌+◌, ◌^◌, ◌<◌, ◌≤◌, Bool, List, length, Some, refl, ⊤}
use Rattle.std.specs.Coded.{Coded, code_by, coded×, coded_list, coded_ℕ}
use Rattle.std.specs.List.{sum_by}
use Rattle.std.specs.Map.{keys_of, lookup}
use Rattle.clru_model.specs.Requests.{since}
use Rattle.clru_curve.specs.declared.numbered.Numbered.{Numbered}
use Rattle.clru_curve.specs.declared.seen.Seen.{Seen}
use Rattle.clru_curve.specs.declared.sized.step.Step.{Step}
use Rattle.clru_curve.specs.LatestSizes.{total_from, IsSummed}
use Rattle.clru_curve.specs.Rising.{numbered_code}
use Rattle.clru_curve.specs.SizedCurves.{step_code}
use Rattle.clru_curve.specs.SizedIdlePasses.{IsSizedIdlePass, timed_pass_by_size}

-- the sizes of the latest requests of keys, with 0 for some others; how many requests there were; for each reuse that came soon enough
-- its span and its size; the size of all requests, and the greatest weight
pub record CountedBySize : Type 0 where
  pub sizes : List Numbered
  pub requests : ℕ
  pub hits : List Step
  pub size : ℕ
  pub greatest : ℕ

abbrev pub counted_by_size : List Numbered → ℕ → List Step → ℕ → ℕ → CountedBySize
counted_by_size ss n hs a g = record { sizes = ss; requests = n; hits = hs; size = a; greatest = g }

abbrev pub counted_by_size_code : Coded CountedBySize
counted_by_size_code =
    code_by (List Numbered × (ℕ × (List Step × (ℕ × ℕ))))
    (coded× (coded_list numbered_code) (coded× coded_ℕ (coded× (coded_list step_code) (coded× coded_ℕ coded_ℕ))))
    (λ c. (c.sizes, (c.requests, (c.hits, (c.size, c.greatest)))))
    (λ t. counted_by_size t.0 t.1.0 t.1.1.0 t.1.1.1.0 t.1.1.1.1) (λ _. refl)

module _ {K : Type 0} (eq : K → K → Bool) where
  -- a pass that has taken these requests under the idle limit, the latest first: with the latest requests of their keys, by position
  -- and time, it is one that holds keys
  pub record IsSizedPositionPass (weight : K → ℕ) (idle : ℕ) (past : List (K × ℕ)) (c : CountedBySize) : Type 0 where
    pub seen : List (K × Seen)
    pub taken : IsSizedIdlePass eq weight idle {S = ⊤} past
        (timed_pass_by_size seen c.sizes c.requests c.hits c.size c.greatest idle tt)
    pub latest : (x : K) (s : Seen) → lookup (eq x) seen ≡ Some s
        → s.position + 1 + length (since eq x (keys_of past)) ≡ length past

-- what holds of every pass, whatever the keys weighed: no sum passes that of all
pub record IsSoundCountedBySize (nodes : List ℕ) (c : CountedBySize) : Type 0 where
  pub summed : IsSummed c.sizes nodes c.requests
  pub few_hits : length c.hits ≤ c.requests
  pub many : c.requests ≤ c.size
  pub held : total_from c.sizes 0 ≤ c.size
  pub hit_sizes : sum_by (λ h. h.missed_size) c.hits ≤ c.size
  pub fits : c.size < 2 ^ 64
