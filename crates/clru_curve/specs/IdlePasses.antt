-- What a pass over requests with times has taken note of, request by request. Public clauses cite it.
use Rattle.std.specs.Prelude.{◌≡◌, ℕ, ◌+◌, ◌<◌, Bool, List, length, take, sum, reverse, Some, None, refl}
use Rattle.std.specs.Coded.{Coded, code_by, coded×, coded_list, coded_ℕ}
use Rattle.std.specs.Map.{keys_of}
use Rattle.clru_model.specs.Ages.{aged_misses}
use Rattle.clru_model.specs.Requests.{distinct, hit}
use Rattle.clru_curve.specs.Curves.{misses_at}
use Rattle.clru_curve.specs.declared.numbered.Numbered.{Numbered}
use Rattle.clru_curve.specs.declared.seen.Seen.{Seen}
use Rattle.clru_curve.specs.Latest.{ones_from, IsLatest}
use Rattle.clru_curve.specs.Rising.{numbered_code}
use Rattle.clru_curve.specs.Ranked.{IsRanked}
use Rattle.clru_curve.specs.Seen.{seen_code, positions_of, AreTimes}

-- each key with the number and the time of its latest request, blocks of bits for these, how many requests there were, how many at
-- each distance that did not come too late, the idle limit, and the builder that hashes keys
pub record TimedPass (K S : Type 0) : Type 0 where
  pub seen : List (K × Seen)
  pub blocks : List Numbered
  pub requests : ℕ
  pub histogram : List ℕ
  pub limit : ℕ
  pub builder : S

module _ {K S : Type 0} where
  abbrev pub timed_pass : List (K × Seen) → List Numbered → ℕ → List ℕ → ℕ → S → TimedPass K S
  timed_pass ss bs n h l b = record { seen = ss; blocks = bs; requests = n; histogram = h; limit = l; builder = b }

  abbrev pub timed_pass_code : Coded K → Coded S → Coded (TimedPass K S)
  timed_pass_code k s =
      code_by (List (K × Seen) × (List Numbered × (ℕ × (List ℕ × (ℕ × S)))))
      (coded× (coded_list (coded× k seen_code)) (coded× (coded_list numbered_code)
      (coded× coded_ℕ (coded× (coded_list coded_ℕ) (coded× coded_ℕ s)))))
      (λ p. (p.seen, (p.blocks, (p.requests, (p.histogram, (p.limit, p.builder))))))
      (λ t. timed_pass t.0 t.1.0 t.1.1.0 t.1.1.1.0 t.1.1.1.1.0 t.1.1.1.1.1) (λ _. refl)

module _ {K : Type 0} (eq : K → K → Bool) (idle : ℕ) where
  -- how many of the requests miss at the capacity k under that idle limit
  abbrev pub idle_misses : ℕ → List (K × ℕ) → ℕ
  idle_misses k requests = aged_misses eq (hit eq k) (Some idle) None requests

  -- at each capacity the curve has the misses of the requests under that limit
  abbrev pub HasIdleMissesOf : List (K × ℕ) → List ℕ → Type 0
  HasIdleMissesOf requests curve = (k : ℕ) → 0 < k → misses_at curve k ≡ idle_misses k requests

  -- as many numbers as distinct keys, of which the first k sum up to the hits at capacity k
  pub record IsIdleHistogram (past : List (K × ℕ)) (histogram : List ℕ) : Type 0 where
    pub distinct : length histogram ≡ distinct eq (keys_of past)
    pub hits : (k : ℕ) → idle_misses k (reverse past) + sum (take k histogram) ≡ length past

  -- a pass with this limit that has taken these requests, the latest first
  pub record IsIdlePass {S : Type 0} (past : List (K × ℕ)) (p : TimedPass K S) : Type 0 where
    pub limit : p.limit ≡ idle
    pub ranked : IsRanked eq (λ x. 1) (distinct eq) (keys_of past) (positions_of p.seen) p.requests (ones_from p.blocks)
    pub times : AreTimes eq past p.seen
    pub counted : IsIdleHistogram past p.histogram
    pub requests : p.requests ≡ length past

module _ {K : Type 0} (eq : K → K → Bool) where
  -- what holds of every pass: it has taken some requests
  pub record IsSoundIdle {S : Type 0} (nodes : List ℕ) (p : TimedPass K S) : Type 0 where
    pub latest : IsLatest p.blocks nodes p.requests
    pub past : List (K × ℕ)
    pub taken : IsIdlePass eq p.limit past p
