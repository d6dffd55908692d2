-- What a pass over requests with times for keys with sizes, under an age limit, has taken note of. Public clauses cite it.
use Rattle.std.specs.Prelude.{◌≡◌, ℕ, ◌+◌, ◌*◌, ◌/◌, ◌<◌, ◌≤◌, ◌⊎◌, Bool, false, if◌then◌else◌, Option, Some, List, [], ◌∷◌, length, reverse, slice_index, refl}
use Rattle.std.specs.Coded.{Coded, code_by, coded×, coded_list, coded_option, coded_ℕ}
use Rattle.std.specs.Map.{keys_of, lookup}
use Rattle.clru_model.specs.Ages.{aged_hit, aged_marks, aged_misses}
use Rattle.clru_model.specs.Sizes.{total, hit_by_size}
use Rattle.clru_model.specs.Spans.{size_of_misses}
use Rattle.clru_curve.specs.declared.fetches.Fetched.{Fetched}
use Rattle.clru_curve.specs.declared.numbered.Numbered.{Numbered}
use Rattle.clru_curve.specs.Fetches.{fetched_code, seens_of}
use Rattle.clru_curve.specs.LatestSizes.{total_from}
use Rattle.clru_curve.specs.Ranked.{IsRanked}
use Rattle.clru_curve.specs.Rising.{numbered_code}
use Rattle.clru_curve.specs.Seen.{positions_of, AreTimes}
use Rattle.clru_curve.specs.SizedCurves.{size_of_all, greatest_of}
use Rattle.clru_curve.specs.SizedPasses.{pass_by_size, IsSoundBySize}

-- at some capacities the misses and their size, and the times of fetches, as many for each key as capacities
pub record FetchTable : Type 0 where
  pub capacities : List ℕ
  pub misses : List ℕ
  pub missed_sizes : List ℕ
  pub times : List ℕ
  pub age : ℕ

abbrev pub fetch_table : (capacities misses missed_sizes times : List ℕ) → ℕ → FetchTable
fetch_table cs ms ss ts a = record { capacities = cs; misses = ms; missed_sizes = ss; times = ts; age = a }

abbrev pub fetch_table_code : Coded FetchTable
fetch_table_code = code_by (List ℕ × (List ℕ × (List ℕ × (List ℕ × ℕ))))
    (coded× (coded_list coded_ℕ) (coded× (coded_list coded_ℕ) (coded× (coded_list coded_ℕ) (coded× (coded_list coded_ℕ) coded_ℕ))))
    (λ f. (f.capacities, (f.misses, (f.missed_sizes, (f.times, f.age)))))
    (λ t. fetch_table t.0 t.1.0 t.1.1.0 t.1.1.1.0 t.1.1.1.1) (λ _. refl)

-- each key with the number and the time of its latest request, and where its times of fetches begin; the sizes of these requests, with 0
-- for some others; how many requests there were; the table of fetches; the size of all requests, the greatest weight, the idle limit, and
-- the builder that hashes keys
pub record AgedPassBySize (K S : Type 0) : Type 0 where
  pub seen : List (K × Fetched)
  pub sizes : List Numbered
  pub requests : ℕ
  pub fetches : FetchTable
  pub size : ℕ
  pub greatest : ℕ
  pub idle : Option ℕ
  pub builder : S

module _ {K S : Type 0} where
  abbrev pub aged_pass_by_size : List (K × Fetched) → List Numbered → ℕ → FetchTable → ℕ → ℕ → Option ℕ → S → AgedPassBySize K S
  aged_pass_by_size es ss n f a g l b =
      record { seen = es; sizes = ss; requests = n; fetches = f; size = a; greatest = g; idle = l; builder = b }

  abbrev pub aged_pass_by_size_code : Coded K → Coded S → Coded (AgedPassBySize K S)
  aged_pass_by_size_code k s =
      code_by (List (K × Fetched) × (List Numbered × (ℕ × (FetchTable × (ℕ × (ℕ × (Option ℕ × S)))))))
      (coded× (coded_list (coded× k fetched_code)) (coded× (coded_list numbered_code)
      (coded× coded_ℕ (coded× fetch_table_code (coded× coded_ℕ (coded× coded_ℕ (coded× (coded_option coded_ℕ) s)))))))
      (λ p. (p.seen, (p.sizes, (p.requests, (p.fetches, (p.size, (p.greatest, (p.idle, p.builder))))))))
      (λ t. aged_pass_by_size t.0 t.1.0 t.1.1.0 t.1.1.1.0 t.1.1.1.1.0 t.1.1.1.1.1.0 t.1.1.1.1.1.1.0 t.1.1.1.1.1.1.1) (λ _. refl)

module _ {K : Type 0} (eq : K → K → Bool) where
  -- of requests with the latest first those that miss
  module _ (hits : K → List K → Bool) (idle age : Option ℕ) where
    abbrev pub fetches_of : List (K × ℕ) → List (K × ℕ)
    fetches_of [] = []
    fetches_of (r ∷ past) = if aged_hit eq hits idle age r past (fetches_of past) then fetches_of past else r ∷ fetches_of past

  module _ (weight : K → ℕ) (idle : Option ℕ) (age : ℕ) where
    -- how many of the requests miss where the size is at most c, under these limits
    abbrev pub aged_misses_by_size : ℕ → List (K × ℕ) → ℕ
    aged_misses_by_size c requests = aged_misses eq (hit_by_size eq weight c) idle (Some age) requests

    -- and their size
    abbrev pub aged_missed_size : ℕ → List (K × ℕ) → ℕ
    aged_missed_size c requests =
        size_of_misses weight (aged_marks eq (hit_by_size eq weight c) idle (Some age) requests) (keys_of requests)

    -- at the i-th capacity, c, the misses, their size, and the time of each key's latest fetch
    pub record IsAgedRow (past : List (K × ℕ)) (seen : List (K × Fetched)) (ms ss ts : List ℕ) (i c : ℕ) : Type 0 where
      pub misses : slice_index ms i ≡ aged_misses_by_size c (reverse past)
      pub missed_size : slice_index ss i ≡ aged_missed_size c (reverse past)
      pub fetched : (x : K) (s : Fetched) → lookup (eq x) seen ≡ Some s
          → lookup (eq x) (fetches_of (hit_by_size eq weight c) idle (Some age) past) ≡ Some (slice_index ts (s.first + i))

  -- a pass with these capacities and limits that has taken these requests, the latest first
  pub record IsSizedAgedPass {S : Type 0} (weight : K → ℕ) (capacities : List ℕ) (idle : Option ℕ) (age : ℕ) (past : List (K × ℕ))
      (p : AgedPassBySize K S) : Type 0 where
    pub places : p.fetches.capacities ≡ capacities
    pub idle_limit : p.idle ≡ idle
    pub age_limit : p.fetches.age ≡ age
    pub ranked : IsRanked eq (λ x. 1 + weight x) (total eq weight)
        (keys_of past) (positions_of (seens_of p.seen)) p.requests (total_from p.sizes)
    pub times : AreTimes eq past (seens_of p.seen)
    pub rows : (i : ℕ) → i < length capacities
        → IsAgedRow weight idle age past p.seen p.fetches.misses p.fetches.missed_sizes p.fetches.times i (slice_index capacities i)
    pub requests : p.requests ≡ length past
    pub held : total_from p.sizes 0 ≡ total eq weight (keys_of past)
    pub size : p.size ≡ size_of_all weight (keys_of past)
    pub greatest : p.greatest ≡ greatest_of weight (keys_of past)

  -- each key's times begin at a multiple of n
  abbrev pub AreAligned : ℕ → List (K × Fetched) → Type 0
  AreAligned n seen = (x : K) (s : Fetched) → lookup (eq x) seen ≡ Some s → s.first / n * n ≡ s.first

  -- n numbers from one place on, and n from another one
  abbrev pub IsApart : ℕ → ℕ → ℕ → Type 0
  IsApart n a b = (a + n ≤ b) ⊎ (b + n ≤ a)

  -- what holds of every pass, whatever the keys weighed: each key has times of its own, and no number passes that of all requests
  pub record IsSoundAgedBySize {S : Type 0} (nodes : List ℕ) (p : AgedPassBySize K S) : Type 0 where
    pub sound : IsSoundBySize eq nodes (pass_by_size (positions_of (seens_of p.seen)) p.sizes p.requests [] p.size p.greatest p.builder)
    pub misses_length : length p.fetches.misses ≡ length p.fetches.capacities
    pub missed_length : length p.fetches.missed_sizes ≡ length p.fetches.capacities
    pub few : (i : ℕ) → slice_index p.fetches.misses i ≤ p.requests
    pub small : (i : ℕ) → slice_index p.fetches.missed_sizes i ≤ p.size
    pub inside : (x : K) (s : Fetched) → lookup (eq x) p.seen ≡ Some s → s.first + length p.fetches.capacities ≤ length p.fetches.times
    pub apart : (x y : K) (s t : Fetched) → lookup (eq x) p.seen ≡ Some s → lookup (eq y) p.seen ≡ Some t → eq x y ≡ false
        → IsApart (length p.fetches.capacities) s.first t.first
