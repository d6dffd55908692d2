-- What was read, and when.
use Rattle.std.proofs.Common.{◌≡◌, ℕ, ◌-◌, ◌≤◌, Bool, true, List, [], ◌∷◌, ◌++◌, Option, Some, None, Result, Ok, Err, IfErr, IfSome, IsSomeAnd, OnOk, length, map, refl, sym, ap, ◌∙◌, arith, subst, append-nil, append_assoc}
use Rattle.std.specs.List.{Any}
use Rattle.std.specs.Map.{lookup}
use Rattle.std.specs.Option.{is_some}
use Rattle.std.specs.Prelude.{String, string_bytes, string_eq, bytes_eq}
use Rattle.std.proofs.lemmas.List.{get_or_append_left, map-append, length-append}
use Rattle.std.proofs.lemmas.List.Quantifiers.{Any-push}
use Rattle.std.proofs.lemmas.Slice.Eq.{bytes_eq-Decides}
use Rattle.std.specs.Duration.{as_nanos}
use Rattle.std.specs.declared.time.Duration.{Duration}
use Rattle.std.specs.Time.{instant_nanos}
use Rattle.std.specs.declared.time.Instant.{Instant}
use Rattle.clru.specs.Cache.{Cache}
use Rattle.clru_through.specs.Steps.{Hits, IsPassed, IsStored, Loads, LoadsBy, Takes}
use Rattle.clru_through.specs.Store.{AllKeep, Store}
use Rattle.clru_through.specs.declared.answer.Loaded.{Loaded}
use Rattle.clru_through.specs.declared.answer.Loaded.TheVariants.{Held, Passed}
use Rattle.clru_through.proofs.Sourced.{AllKeep-lookup_entry, AllKeep-nil, AllKeep-taken, AllKeep-touch, entry_of}
use Rattle.clru_files.specs.Reading.{AreRecent, IsRecent, Timed, WasRead, WasReadWithin, HitsAreRecent, AreReadings}
use Rattle.clru_files.specs.Serving.{is_hit, is_read}
use Rattle.clru_files.specs.declared.fault.Fault.{Fault}
use Rattle.clru_files.specs.declared.folder.Page.{Page}
use Rattle.clru_files.specs.declared.served.Served.{Served}

-- one of more elements
Any-more : {X : Type 0} (P : X → Type 0) (xs : List X) (y : X) → Any P xs → Any P (xs ++ y ∷ [])
Any-more P xs y (k, x, low, at, is) =
    (k, x, omega (arith, low, length-append xs (y ∷ [])), get_or_append_left xs (y ∷ []) x k low ∙ at, is)

-- what was read by one of the requests was read by one of more
pub all_more : {K : Type 0} (path : K → List ℕ) (done : List Timed) (r : Timed) (es : List (K × Page))
    → AllKeep (WasRead done) path es → AllKeep (WasRead (done ++ r ∷ [])) path es
unfolding AllKeep
all_more path done r [] all = tt
all_more path done r (e ∷ es) all =
    (Any-more (λ r. (r.1.0 ≡ path e.0) × (is_read r.1.1 ≡ true) × (e.1.read_at ≡ Some r.0)) done r all.0, all_more path done r es all.1)

-- what became of a page that was read now leaves pages of which each was read by one of the requests
module _ {Y W : Type 0} (eq : String Y → String Y → Bool) (weight : String Y → Page → ℕ) (old new : Cache (String Y) Page W)
    (x : String Y) (page : Page) (now : Instant) (served : Served) (done : List Timed) (at : page.read_at ≡ Some now) (read : is_read served ≡ true) where
  taken_leaves : (loaded : Loaded Page) → Takes eq weight old x page loaded new
      → AllKeep (WasRead done) string_bytes old.entries → AllKeep (WasRead (done ++ (now, (string_bytes x, served)) ∷ [])) string_bytes new.entries
  taken_leaves loaded taken all =
      let next = done ++ (now, (string_bytes x, served)) ∷ [] in
      AllKeep-taken eq weight (WasRead next) string_bytes old new x page loaded
      (Any-push (λ r. (r.1.0 ≡ string_bytes x) × (is_read r.1.1 ≡ true) × (page.read_at ≡ Some r.0)) done (now, (string_bytes x, served)) (refl, read, at))
      taken (all_more string_bytes done (now, (string_bytes x, served)) old.entries all)

  pub put_leaves : {U : Type 0} (result : Result U Page) → OnOk result (IsStored eq weight old x page new)
      → IfErr result (λ back. IsPassed eq weight old x page back new)
      → AllKeep (WasRead done) string_bytes old.entries → AllKeep (WasRead (done ++ (now, (string_bytes x, served)) ∷ [])) string_bytes new.entries
  put_leaves (Ok u) held refused all = taken_leaves (Held true) (refl, held) all
  put_leaves (Err back) held refused all = taken_leaves (Passed back) refused all

-- a load of what is held
module _ {K V W R E : Type 0} (eq : K → K → Bool) (weight : K → V → ℕ) (fetches : R → K → Result V E → R → Type 0)
    (old new : Store K V W R) (x : K) (result : Result (Loaded V) E) where
  hits_by : (held : Option V) (fits : V → Type 0) → IsSomeAnd held fits → LoadsBy eq weight fetches old x result new held
      → Hits eq weight fetches old x result new
  hits_by None fits is step = absurd is
  hits_by (Some v) fits is step = step

  pub hits_held : (fits : V → Type 0) → IsSomeAnd (lookup (eq x) old.cache.entries) fits → Loads eq weight fetches old x result new
      → Hits eq weight fetches old x result new
  hits_held fits is step = hits_by (lookup (eq x) old.cache.entries) fits is step

-- leaves them too
pub hit_leaves : {Y W R E : Type 0} (eq : String Y → String Y → Bool) (weight : String Y → Page → ℕ) (fetches : R → String Y → Result Page E → R → Type 0)
    (old new : Store (String Y) Page W R) (x : String Y) (result : Result (Loaded Page) E) (r : Timed) (done : List Timed)
    → Hits eq weight fetches old x result new
    → AllKeep (WasRead done) string_bytes old.cache.entries → AllKeep (WasRead (done ++ r ∷ [])) string_bytes new.cache.entries
hit_leaves eq weight fetches old new x result r done hit all =
    rw hit.ends (AllKeep-touch eq x (WasRead (done ++ r ∷ [])) string_bytes old.cache.entries (all_more string_bytes done r old.cache.entries all))

-- and so does a load of a page that is held
pub held_leaves : {Y W R : Type 0} (old new : Store (String Y) Page W R) (x : String Y) (result : Result (Loaded Page) Fault) (r : Timed) (done : List Timed)
    (fits : Page → Type 0) → IsSomeAnd (lookup (string_eq x) old.cache.entries) fits
    → Loads string_eq (λ path page. length page.bytes.items - 1) (λ s path fetched t. t ≡ s) old x result new
    → AllKeep (WasRead done) string_bytes old.cache.entries → AllKeep (WasRead (done ++ r ∷ [])) string_bytes new.cache.entries
held_leaves {Y} {W} {R} old new x result r done fits is step all =
    let weight : String Y → Page → ℕ = λ path page. length page.bytes.items - 1 in
    let fetches : R → String Y → Result Page Fault → R → Type 0 = λ s path fetched t. t ≡ s in
    hit_leaves string_eq weight fetches old new x result r done (hits_held string_eq weight fetches old new x result fits is step) all

-- a hit's file was read by one of the requests, at most so long before
module _ {Y : Type 0} (limit : Duration) (done : List Timed) (now : Instant) (line : List ℕ) (es : List (String Y × Page))
    (all : AllKeep (WasRead done) string_bytes es) where
  abbrev test : String Y → Bool
  test path = bytes_eq line (string_bytes path)

  hit_by : (held : Option Page) → lookup test es ≡ held → is_some held ≡ true → IfSome held (IsRecent limit now) → WasReadWithin limit done now line
  hit_by None is some recent = cc
  hit_by (Some page) is some recent =
      let e = entry_of test es page is in
      let (k, r, low, at, is) = AllKeep-lookup_entry test (WasRead done) string_bytes es (e.key, page) all e.looked_up in (
        k,
        r,
        low,
        at,
        (
          is.0 ∙ sym ((bytes_eq-Decides line (string_bytes e.key)).0 e.passes),
          is.1,
          subst (λ (t : Option Instant). IsSomeAnd t (λ at. instant_nanos now - instant_nanos at ≤ as_nanos limit)) is.2 recent,
        ),
      )

  pub hit_read : is_some (lookup test es) ≡ true → IfSome (lookup test es) (IsRecent limit now) → WasReadWithin limit done now line
  hit_read some recent = hit_by (lookup test es) refl some recent

-- one more request
pub push_recent : (limit : Duration) (done rs : List Timed) (r : Timed) → HitsAreRecent limit done rs
    → (is_hit r.1.1 ≡ true → WasReadWithin limit (done ++ rs) r.0 r.1.0) → HitsAreRecent limit done (rs ++ r ∷ [])
push_recent limit done [] r recent hit =
    (λ is. subst (λ (l : List Timed). WasReadWithin limit l r.0 r.1.0) (append-nil done) (hit is), tt)
push_recent limit done (q ∷ rs) r recent hit = (
  recent.0,
  push_recent limit (done ++ q ∷ []) rs r recent.1
      (λ is. subst (λ (l : List Timed). WasReadWithin limit l r.0 r.1.0) (sym (append_assoc done (q ∷ []) rs)) (hit is)),
)

pub push_reading : {T : Type 0} (reads : T → Instant → T → Type 0) (old mid new : T) (rs : List Timed) (r : Timed)
    → AreReadings reads old rs mid → reads mid r.0 new → AreReadings reads old (rs ++ r ∷ []) new
push_reading reads old mid new [] r are one = (new, subst (λ t. reads t r.0 new) are one, refl)
push_reading reads old mid new (q ∷ rs) r (next, first, are) one = (next, first, push_reading reads next mid new rs r are one)

-- of the requests so far, by the timer that there was first and the one that there is: as `AreRecent`, and each held page was read
pub record AreReadSoFar {T Y : Type 0} (reads : T → Instant → T → Type 0) (limit : Duration) (done : List (List ℕ × Served)) (old new : T)
    (es : List (String Y × Page)) : Type 0 where
  pub timed : List Timed
  pub requests : map (λ r. r.1) timed ≡ done
  pub times : AreReadings reads old timed new
  pub recent : HitsAreRecent limit [] timed
  pub held : AllKeep (WasRead timed) string_bytes es

pub none_read : {T Y : Type 0} (reads : T → Instant → T → Type 0) (limit : Duration) (old : T) (es : List (String Y × Page)) → es ≡ []
    → AreReadSoFar reads limit [] old old es
none_read reads limit old es empty = record {
  timed = [];
  requests = refl;
  times = refl;
  recent = tt;
  held = rw empty (AllKeep-nil (WasRead []) string_bytes);
}

pub push_read : {T Y : Type 0} (reads : T → Instant → T → Type 0) (limit : Duration) (done : List (List ℕ × Served)) (next : List ℕ × Served)
    (old mid new : T) (now : Instant) (es fs : List (String Y × Page)) → AreReadSoFar reads limit done old mid es → reads mid now new
    → (is_hit next.1 ≡ true → is_some (lookup (λ path. bytes_eq next.0 (string_bytes path)) es) ≡ true)
    → (is_hit next.1 ≡ true → IfSome (lookup (λ path. bytes_eq next.0 (string_bytes path)) es) (IsRecent limit now))
    → ((timed : List Timed) → AllKeep (WasRead timed) string_bytes es → AllKeep (WasRead (timed ++ (now, next) ∷ [])) string_bytes fs)
    → AreReadSoFar reads limit (done ++ next ∷ []) old new fs
push_read reads limit done next old mid new now es fs so reading some recent step = record {
  timed = so.timed ++ (now, next) ∷ [];
  requests = map-append (λ r. r.1) so.timed ((now, next) ∷ []) ∙ ap (λ l. l ++ next ∷ []) so.requests;
  times = push_reading reads old mid new so.timed (now, next) so.times reading;
  recent = push_recent limit [] so.timed (now, next) so.recent
      (λ is. hit_read limit so.timed now next.0 es so.held (some is) (recent is));
  held = step so.timed so.held;
}

pub recent_of : {T Y : Type 0} (reads : T → Instant → T → Type 0) (limit : Duration) (done : List (List ℕ × Served)) (old new : T)
    (es : List (String Y × Page)) → AreReadSoFar reads limit done old new es → AreRecent reads limit done old new
recent_of reads limit done old new es so = record { timed = so.timed; each = so.requests; times = so.times; recent = so.recent }
