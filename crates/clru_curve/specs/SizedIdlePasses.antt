-- What a pass over requests with times for keys with sizes has taken note of, request by request. Public clauses cite it.
use Rattle.std.specs.Prelude.{◌≡◌, ℕ, ◌+◌, Bool, List, length, reverse, Some, None, refl}
use Rattle.std.specs.Coded.{Coded, code_by, coded×, coded_list, coded_ℕ}
use Rattle.std.specs.Map.{keys_of}
use Rattle.clru_model.specs.Ages.{aged_marks, aged_misses}
use Rattle.clru_model.specs.Sizes.{total, hit_by_size}
use Rattle.clru_model.specs.Spans.{size_of_misses}
use Rattle.clru_curve.specs.declared.numbered.Numbered.{Numbered}
use Rattle.clru_curve.specs.declared.seen.Seen.{Seen}
use Rattle.clru_curve.specs.declared.sized.step.Step.{Step}
use Rattle.clru_curve.specs.LatestSizes.{total_from}
use Rattle.clru_curve.specs.Ranked.{IsRanked}
use Rattle.clru_curve.specs.Rising.{numbered_code}
use Rattle.clru_curve.specs.Seen.{seen_code, positions_of, AreTimes}
use Rattle.clru_curve.specs.SizedCurves.{CurveBySize, step_code, hits_within, misses_within, missed_size_within, size_of_all, greatest_of}
use Rattle.clru_curve.specs.SizedPasses.{PassBySize, pass_by_size, hit_size, IsSoundBySize}

-- each key with the number and the time of its latest request; the sizes of these requests, with 0 for some others; how many requests
-- there were; for each that can hit its span and its size; the size of all requests, the greatest weight, the idle limit, and
-- the builder that hashes keys
pub record TimedPassBySize (K S : Type 0) : Type 0 where
  pub seen : List (K × Seen)
  pub sizes : List Numbered
  pub requests : ℕ
  pub hits : List Step
  pub size : ℕ
  pub greatest : ℕ
  pub limit : ℕ
  pub builder : S

module _ {K S : Type 0} where
  abbrev pub timed_pass_by_size : List (K × Seen) → List Numbered → ℕ → List Step → ℕ → ℕ → ℕ → S → TimedPassBySize K S
  timed_pass_by_size es ss n hs a g l b =
      record { seen = es; sizes = ss; requests = n; hits = hs; size = a; greatest = g; limit = l; builder = b }

  abbrev pub timed_pass_by_size_code : Coded K → Coded S → Coded (TimedPassBySize K S)
  timed_pass_by_size_code k s =
      code_by (List (K × Seen) × (List Numbered × (ℕ × (List Step × (ℕ × (ℕ × (ℕ × S)))))))
      (coded× (coded_list (coded× k seen_code)) (coded× (coded_list numbered_code)
      (coded× coded_ℕ (coded× (coded_list step_code) (coded× coded_ℕ (coded× coded_ℕ (coded× coded_ℕ s)))))))
      (λ p. (p.seen, (p.sizes, (p.requests, (p.hits, (p.size, (p.greatest, (p.limit, p.builder))))))))
      (λ t. timed_pass_by_size t.0 t.1.0 t.1.1.0 t.1.1.1.0 t.1.1.1.1.0 t.1.1.1.1.1.0 t.1.1.1.1.1.1.0 t.1.1.1.1.1.1.1) (λ _. refl)

  -- the same without times
  abbrev pub untimed : TimedPassBySize K S → PassBySize K S
  untimed p = pass_by_size (positions_of p.seen) p.sizes p.requests p.hits p.size p.greatest p.builder

module _ {K : Type 0} (eq : K → K → Bool) where
  module _ (weight : K → ℕ) (idle : ℕ) where
    -- how many of the requests miss where the size is at most c, under that idle limit
    abbrev pub idle_misses_by_size : ℕ → List (K × ℕ) → ℕ
    idle_misses_by_size c requests = aged_misses eq (hit_by_size eq weight c) (Some idle) None requests

    -- and their size
    abbrev pub idle_missed_size : ℕ → List (K × ℕ) → ℕ
    idle_missed_size c requests =
        size_of_misses weight (aged_marks eq (hit_by_size eq weight c) (Some idle) None requests) (keys_of requests)

    -- each span is that of a request for a key that came before, not too long ago, and at each capacity these are the hits
    pub record AreIdleHits (past : List (K × ℕ)) (hits : List Step) : Type 0 where
      pub misses : (c : ℕ) → idle_misses_by_size c (reverse past) + hits_within c hits ≡ length past
      pub size : (c : ℕ) → idle_missed_size c (reverse past) + hit_size c hits ≡ size_of_all weight (keys_of past)

    -- a pass with this limit that has taken these requests, the latest first
    pub record IsSizedIdlePass {S : Type 0} (past : List (K × ℕ)) (p : TimedPassBySize K S) : Type 0 where
      pub limit : p.limit ≡ idle
      pub ranked : IsRanked eq (λ x. 1 + weight x) (total eq weight)
          (keys_of past) (positions_of p.seen) p.requests (total_from p.sizes)
      pub times : AreTimes eq past p.seen
      pub hits : AreIdleHits past p.hits
      pub requests : p.requests ≡ length past
      pub held : total_from p.sizes 0 ≡ total eq weight (keys_of past)
      pub size : p.size ≡ size_of_all weight (keys_of past)
      pub greatest : p.greatest ≡ greatest_of weight (keys_of past)

    -- the curve has at each capacity the misses of the requests under that limit, and their size
    pub record IsSizedIdleCurveOf (requests : List (K × ℕ)) (curve : CurveBySize) : Type 0 where
      pub misses : (c : ℕ) → misses_within curve c ≡ idle_misses_by_size c requests
      pub missed_size : (c : ℕ) → missed_size_within curve c ≡ idle_missed_size c requests
      pub requests_in_all : curve.requests ≡ length requests
      pub size : curve.size ≡ size_of_all weight (keys_of requests)
      pub distinct_size : curve.distinct_size ≡ total eq weight (reverse (keys_of requests))
      pub greatest_weight : curve.greatest_weight ≡ greatest_of weight (reverse (keys_of requests))

  -- what holds of every pass, whatever the keys weighed
  abbrev pub IsSoundIdleBySize : {S : Type 0} → List ℕ → TimedPassBySize K S → Type 0
  IsSoundIdleBySize nodes p = IsSoundBySize eq nodes (untimed p)
