-- Which pages are recent, and when each request was made. Clauses cite it.
use Rattle.std.specs.Prelude.{◌≡◌, ℕ, ◌-◌, ◌≤◌, true, IsSomeAnd, List, [], ◌∷◌, ◌++◌, Some, ⊤, map}
use Rattle.std.specs.List.{Any}
use Rattle.std.specs.Duration.{as_nanos}
use Rattle.std.specs.declared.time.Duration.{Duration}
use Rattle.std.specs.Time.{instant_nanos}
use Rattle.std.specs.declared.time.Instant.{Instant}
use Rattle.clru_files.specs.Serving.{is_hit, is_read}
use Rattle.clru_files.specs.declared.folder.Page.{Page}
use Rattle.clru_files.specs.declared.served.Served.{Served}

-- the page was read at a time that is known, at most so long before this one
abbrev pub IsRecent : Duration → Instant → Page → Type 0
IsRecent limit now page = IsSomeAnd page.read_at (λ at. instant_nanos now - instant_nanos at ≤ as_nanos limit)

-- a request, and its time
abbrev pub Timed : Type 0
Timed = Instant × (List ℕ × Served)

-- one of the requests read the file of the path, and the page has that request's time
abbrev pub WasRead : List Timed → List ℕ → Page → Type 0
WasRead done path page = Any (λ r. (r.1.0 ≡ path) × (is_read r.1.1 ≡ true) × (page.read_at ≡ Some r.0)) done

-- one of the requests read the file of the path, at most so long before this time
abbrev pub WasReadWithin : Duration → List Timed → Instant → List ℕ → Type 0
WasReadWithin limit done now path =
    Any (λ r. (r.1.0 ≡ path) × (is_read r.1.1 ≡ true) × (instant_nanos now - instant_nanos r.0 ≤ as_nanos limit)) done

-- behind the requests `done`: each hit's file was read by an earlier one, at most so long before
abbrev pub HitsAreRecent : Duration → List Timed → List Timed → Type 0
HitsAreRecent limit done [] = ⊤
HitsAreRecent limit done (r ∷ rs) = (is_hit r.1.1 ≡ true → WasReadWithin limit done r.0 r.1.0) × HitsAreRecent limit (done ++ r ∷ []) rs

-- the timer was read once at each request, and gave its time
abbrev pub AreReadings : {T : Type 0} → (T → Instant → T → Type 0) → T → List Timed → T → Type 0
AreReadings reads old [] new = new ≡ old
AreReadings {T} reads old (r ∷ rs) new = (next : T) × reads old r.0 next × AreReadings reads next rs new

-- the requests have times of the timer, by which each hit's file was read by an earlier request, at most so long before
pub record AreRecent {T : Type 0} (reads : T → Instant → T → Type 0) (limit : Duration) (requests : List (List ℕ × Served)) (old new : T) : Type 0 where
  pub timed : List Timed
  pub each : map (λ r. r.1) timed ≡ requests
  pub times : AreReadings reads old timed new
  pub recent : HitsAreRecent limit [] timed
