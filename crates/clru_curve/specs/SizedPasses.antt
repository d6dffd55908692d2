-- What a pass over keys with sizes has taken note of, request by request. Public clauses cite it.
use Rattle.std.specs.Prelude.{◌≡◌, ℕ, ◌+◌, ◌^◌, ◌<◌, ◌≤◌, ◌↔◌, nat_le, Bool, if◌then◌else◌, List, ◌∷◌, ◌++◌, length, reverse, Some, refl, ⊤}
use Rattle.std.specs.Coded.{Coded, code_by, coded×, coded_list, coded_ℕ}
use Rattle.std.specs.List.{sum_by}
use Rattle.std.specs.Map.{lookup}
use Rattle.clru_curve.specs.declared.sized.error.SizedRequestError.{SizedRequestError}
use Rattle.clru_curve.specs.declared.sized.error.SizedRequestError.TheVariants.{NoMemory, TooLarge}
use Rattle.clru_curve.specs.declared.sized.step.Step.{Step}
use Rattle.clru_curve.specs.declared.numbered.Numbered.{Numbered}
use Rattle.clru_curve.specs.LatestSizes.{total_from, live_from, IsSummed}
use Rattle.clru_curve.specs.Ranked.{IsRanked}
use Rattle.clru_curve.specs.Rising.{numbered_code}
use Rattle.clru_curve.specs.SizedCurves.{step_code, hits_within, size_of_all, greatest_of}
use Rattle.clru_model.specs.Requests.{distinct, since}
use Rattle.clru_model.specs.Sizes.{total, misses_by_size, missed_size}

-- each key with the number of its latest request; the sizes of these requests, with 0 for some others; how many requests there
-- were; for each that can hit its span and its size; the size of all requests, the greatest weight, and the builder that hashes keys
pub record PassBySize (K S : Type 0) : Type 0 where
  pub positions : List (K × ℕ)
  pub sizes : List Numbered
  pub requests : ℕ
  pub hits : List Step
  pub size : ℕ
  pub greatest : ℕ
  pub builder : S

module _ {K S : Type 0} where
  abbrev pub pass_by_size : List (K × ℕ) → List Numbered → ℕ → List Step → ℕ → ℕ → S → PassBySize K S
  pass_by_size ps ss n hs a g b = record { positions = ps; sizes = ss; requests = n; hits = hs; size = a; greatest = g; builder = b }

  abbrev pub pass_by_size_code : Coded K → Coded S → Coded (PassBySize K S)
  pass_by_size_code k s =
      code_by (List (K × ℕ) × (List Numbered × (ℕ × (List Step × (ℕ × (ℕ × S))))))
      (coded× (coded_list (coded× k coded_ℕ)) (coded× (coded_list numbered_code)
      (coded× coded_ℕ (coded× (coded_list step_code) (coded× coded_ℕ (coded× coded_ℕ s))))))
      (λ p. (p.positions, (p.sizes, (p.requests, (p.hits, (p.size, (p.greatest, p.builder)))))))
      (λ t. pass_by_size t.0 t.1.0 t.1.1.0 t.1.1.1.0 t.1.1.1.1.0 t.1.1.1.1.1.0 t.1.1.1.1.1.1) (λ _. refl)

module _ {K : Type 0} where
  -- the key that a refusal hands back
  abbrev pub key_of : SizedRequestError K → K
  key_of (NoMemory x) = x
  key_of (TooLarge x) = x

  -- memory was refused
  abbrev pub IsNoMemory : SizedRequestError K → Type 0
  IsNoMemory (NoMemory x) = ⊤
  IsNoMemory (TooLarge x) = ⊥

  -- the sizes of all requests are too large for a number
  abbrev pub IsTooLarge : SizedRequestError K → Type 0
  IsTooLarge (NoMemory x) = ⊥
  IsTooLarge (TooLarge x) = ⊤

  -- of a list of requests the first that was not taken came back: the sizes of those before it fit, and with its own they are
  -- too large exactly where that is what was answered
  pub record IsFirstRefused (weight : K → ℕ) (requests : List K) (refusal : SizedRequestError K) : Type 0 where
    pub taken : List K
    pub rest : List K
    pub first : requests ≡ taken ++ key_of refusal ∷ rest
    pub fits : size_of_all weight taken < 2 ^ 64
    pub too_large : IsTooLarge refusal ↔ (2 ^ 64 ≤ size_of_all weight taken + (1 + weight (key_of refusal)))

-- the size of those hits whose span is within the capacity
abbrev pub hit_size : ℕ → List Step → ℕ
hit_size c hits = sum_by (λ h. if nat_le h.capacity c then h.missed_size else 0) hits

module _ {K : Type 0} (eq : K → K → Bool) where
  module _ (weight : K → ℕ) where
    -- each span is that of a request for a key that came before, and at each capacity these are the hits
    pub record AreHits (past : List K) (hits : List Step) : Type 0 where
      pub misses : (c : ℕ) → misses_by_size eq weight c (reverse past) + hits_within c hits ≡ length past
      pub size : (c : ℕ) → missed_size eq weight c (reverse past) + hit_size c hits ≡ size_of_all weight past
      pub again : length hits + distinct eq past ≡ length past

    -- a pass that has taken these requests, the latest first
    pub record IsSizedPass {S : Type 0} (past : List K) (p : PassBySize K S) : Type 0 where
      pub ranked : IsRanked eq (λ x. 1 + weight x) (total eq weight)
          past p.positions p.requests (total_from p.sizes)
      pub hits : AreHits past p.hits
      pub requests : p.requests ≡ length past
      pub held : total_from p.sizes 0 ≡ total eq weight past
      pub size : p.size ≡ size_of_all weight past
      pub greatest : p.greatest ≡ greatest_of weight past
      pub latest : (x : K) (q : ℕ) → lookup (eq x) p.positions ≡ Some q → q + 1 + length (since eq x past) ≡ length past

  -- what holds of every pass, whatever the keys weighed: each key has one size, and no sum passes that of all
  pub record IsSoundBySize {S : Type 0} (nodes : List ℕ) (p : PassBySize K S) : Type 0 where
    pub summed : IsSummed p.sizes nodes p.requests
    pub past : List K
    pub ranked : IsRanked eq (λ x. 1) (distinct eq) past p.positions p.requests (live_from p.sizes)
    pub few_hits : length p.hits ≤ p.requests
    pub many : p.requests ≤ p.size
    pub held : total_from p.sizes 0 ≤ p.size
    pub hit_sizes : sum_by (λ h. h.missed_size) p.hits ≤ p.size
    pub fits : p.size < 2 ^ 64
