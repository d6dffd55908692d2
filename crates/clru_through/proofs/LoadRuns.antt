-- Why loads through an empty cache, at weight zero, fetch exactly where requests miss.
use Rattle.std.proofs.Common.{◌≡◌, ℕ, ◌≤◌, Bool, true, false, not, cond, List, [], ◌∷◌, ◌++◌, map, length, Option, Some, None, is_some, Result, Ok, Err}
use Rattle.std.proofs.Common.{refl, ap, ◌∙◌, subst, arith}
use Rattle.std.proofs.lemmas.List.Sums.{sum_by-cons}
use Rattle.std.specs.Cmp.{IsEquivalence}
use Rattle.std.specs.List.{count_by}
use Rattle.std.specs.Map.{keys_of, lookup}
use Rattle.clru.specs.Cache.{with_entries}
use Rattle.clru_model.specs.Entries.{touch}
use Rattle.clru_model.specs.Requests.{hit, holds, marks, marks_after, misses}
use Rattle.clru_model.specs.Runs.{IsPut}
use Rattle.clru_model.proofs.Cases.{split}
use Rattle.clru_model.proofs.Finding.{held, touch-held}
use Rattle.clru_model.proofs.Hits.{HoldsHits, HoldsHits_held, HoldsHits_none, HoldsHits_put}
use Rattle.clru_model.proofs.Marks.{count_by-not-cons}
use Rattle.clru_model.proofs.PutSteps.{IsPut-weightless, length-put}
use Rattle.clru_through.specs.LoadRuns.{AreFetched, FetchedKeys, IsLoadRun, missed}
use Rattle.clru_through.specs.Steps.{IsStored, Loads, LoadsBy, TakesAnswer}
use Rattle.clru_through.specs.Store.{Store, store}
use Rattle.clru_through.specs.declared.answer.Loaded.TheVariants.{Held}

pub holds-lookup : {K V : Type 0} (eq : K → K → Bool) (x : K) (es : List (K × V)) → is_some (lookup (eq x) es) ≡ holds eq x (keys_of es)
holds-lookup eq x [] = refl
holds-lookup eq x (e ∷ es) = split (eq x e.0) (λ t. rw t refl) (λ f. rw f (holds-lookup eq x es))

module _ {K V W R E : Type 0} (eq : K → K → Bool) (weight : W → K → V → ℕ) (fetches : R → K → Result V E → R → Type 0) where
  -- a load of x that fetches its value, which is then held
  pub record IsFetchingLoad (old new : Store K V W R) (x : K) : Type 0 where
    pub value : V
    pub absent : lookup (eq x) old.cache.entries ≡ None
    pub fetch : fetches old.source x (Ok value) new.source
    pub stored : IsStored eq (weight old.cache.scale) old.cache x value new.cache

  -- a load of x that finds it held
  pub record IsFindingLoad (old new : Store K V W R) (x : K) : Type 0 where
    pub value : V
    pub there : lookup (eq x) old.cache.entries ≡ Some value
    pub ends : new ≡ store (with_entries old.cache (touch eq x old.cache.entries)) old.source

  abbrev pub HoldingLoad : Bool → Store K V W R → Store K V W R → K → Type 0
  HoldingLoad true old new x = IsFetchingLoad old new x
  HoldingLoad false old new x = IsFindingLoad old new x

  module _ (old new : Store K V W R) (x : K) (f : Bool) where
    fetching_load : (fetched : Result V E) → fetches old.source x fetched new.source → lookup (eq x) old.cache.entries ≡ None
        → TakesAnswer eq (weight old.cache.scale) old.cache x fetched (Ok (Held f)) new.cache → HoldingLoad f old new x
    fetching_load (Ok v) fetch absent (is, stored) = rw is (record { value = v; absent = absent; fetch = fetch; stored = stored })
    fetching_load (Err d) fetch absent passes = absurd passes

    load_by : (o : Option V) → lookup (eq x) old.cache.entries ≡ o
        → LoadsBy eq (weight old.cache.scale) fetches old x (Ok (Held f)) new o → HoldingLoad f old new x
    load_by None absent miss = fetching_load miss.fetched miss.fetch absent miss.passes
    load_by (Some v) there found =
        let off : f ≡ false = cc (found.answer) in rw off (record { value = v; there = there; ends = found.ends })

    -- a load whose value is held
    pub holding_load : Loads eq (weight old.cache.scale) fetches old x (Ok (Held f)) new → HoldingLoad f old new x
    holding_load step = load_by (lookup (eq x) old.cache.entries) refl step

  -- whether it fetches, and what stays
  pub record IsSteady (old new : Store K V W R) (x : K) (f : Bool) : Type 0 where
    pub found : not f ≡ holds eq x (keys_of old.cache.entries)
    pub capacity : new.cache.capacity ≡ old.cache.capacity
    pub scale : new.cache.scale ≡ old.cache.scale

  pub steady : (old new : Store K V W R) (x : K) (f : Bool) → HoldingLoad f old new x → IsSteady old new x f
  steady old new x true load = record {
    found = rw (← holds-lookup eq x old.cache.entries, load.absent) refl;
    capacity = load.stored.places.capacity;
    scale = load.stored.places.scale;
  }
  steady old new x false load = record {
    found = rw (← holds-lookup eq x old.cache.entries, load.there) refl;
    capacity = rw load.ends refl;
    scale = rw load.ends refl;
  }

  -- loads fetch the keys that are not held, one after the other
  pub fetched_keys : (old last : Store K V W R) (keys : List K) (fs : List Bool) → IsLoadRun eq weight fetches old keys fs last
      → FetchedKeys eq weight fetches (missed (map not fs) keys) old last
  fetched_keys old last [] [] run = ([], ap (λ t. t.source) run, refl)
  fetched_keys old last [] (f ∷ fs) run = absurd run
  fetched_keys old last (x ∷ keys) [] run = absurd run
  fetched_keys old last (x ∷ keys) (true ∷ fs) (next, step, later) =
      let load = holding_load old next x true step in let (pairs, fetched, are) = fetched_keys next last keys fs later in
      ((x, load.value) ∷ pairs, (next.source, load.fetch, fetched), ap (λ ks. x ∷ ks) are)
  fetched_keys old last (x ∷ keys) (false ∷ fs) (next, step, later) =
      let load = holding_load old next x false step in let (pairs, fetched, are) = fetched_keys next last keys fs later in
      let same : next.source ≡ old.source = rw load.ends refl in
      (pairs, subst (λ s. AreFetched fetches pairs s last.source) same fetched, are)

module _ {K V W R E : Type 0} (eq : K → K → Bool) (laws : IsEquivalence eq) (weight : W → K → V → ℕ)
    (fetches : R → K → Result V E → R → Type 0) where
  -- a load whose value is held, at weight zero, is a put of a run
  put_of_load : (old new : Store K V W R) (x : K) (f : Bool) → ((y : K) (v : V) → weight old.cache.scale y v ≡ 0)
      → length old.cache.entries ≤ old.cache.capacity → HoldingLoad eq weight fetches f old new x
      → IsPut eq old.cache.capacity x old.cache.entries new.cache.entries
  put_of_load old new x true none short load =
      IsPut-weightless eq laws old.cache.capacity x load.value old.cache.entries new.cache.entries (weight old.cache.scale) none short load.stored.entries
  put_of_load old new x false none short load =
      let there = load.there in
      let entry = held (eq x) {es = old.cache.entries} (rw there refl) in
      let holding : holds eq x (keys_of old.cache.entries) ≡ true = rw (← holds-lookup eq x old.cache.entries, there) refl in
      record {
        key = entry.entry.0;
        value = entry.entry.1;
        same = entry.passes;
        entries = rw (load.ends, holding) (touch-held eq x entry);
      }

  -- loads after requests of the past, at the capacity k and the scale s
  run_from : (k : ℕ) (s : W) (past : List K) (old last : Store K V W R) (keys : List K) (fs : List Bool) → 1 ≤ k
      → ((y : K) (v : V) → weight s y v ≡ 0) → old.cache.capacity ≡ k → old.cache.scale ≡ s → length old.cache.entries ≤ k
      → HoldsHits eq k past (keys_of old.cache.entries) → IsLoadRun eq weight fetches old keys fs last
      → map not fs ≡ marks_after eq k past keys
  run_from k s past old last [] [] some none capacity scale short keeps run = refl
  run_from k s past old last [] (f ∷ fs) some none capacity scale short keeps run = absurd run
  run_from k s past old last (x ∷ keys) [] some none capacity scale short keeps run = absurd run
  run_from k s past old last (x ∷ keys) (f ∷ fs) some none capacity scale short keeps (next, step, later) =
      let es = old.cache.entries in
      let load = holding_load eq weight fetches old next x f step in let stays = steady eq weight fetches old next x f load in
      let put : IsPut eq k x es next.cache.entries = rw capacity at (put_of_load old next x f (rw scale none) (rw capacity short) load) in
      let rest = run_from k s (x ∷ past) next last keys fs some none (stays.capacity ∙ capacity) (stays.scale ∙ scale)
      (length-put eq k x es next.cache.entries some short put) (HoldsHits_put eq laws x es next.cache.entries keeps put) later in
      let mark : not f ≡ hit eq k x past = stays.found ∙ HoldsHits_held eq x es short keeps in rw (mark, rest) refl

  room_by : (old next : Store K V W R) (x : K) (f : Bool) (o : Option V) → o ≡ None
      → LoadsBy eq (weight old.cache.scale) fetches old x (Ok (Held f)) next o → 1 ≤ old.cache.capacity
  room_by old next x f (Some v) absent step = cc
  room_by old next x f None absent step = room step.fetched step.passes
    where
      room : (fetched : Result V E) → TakesAnswer eq (weight old.cache.scale) old.cache x fetched (Ok (Held f)) next.cache → 1 ≤ old.cache.capacity
      room (Ok v) (is, stored) = let light = stored.light in omega arith
      room (Err d) passes = absurd passes

  module _ (old last : Store K V W R) (none : (x : K) (v : V) → weight old.cache.scale x v ≡ 0) (empty : old.cache.entries ≡ []) where
    -- a load fetches exactly where the request misses
    pub fetched_where_missed : (keys : List K) (fs : List Bool) → IsLoadRun eq weight fetches old keys fs last
        → map not fs ≡ marks eq old.cache.capacity keys
    fetched_where_missed [] [] run = refl
    fetched_where_missed [] (f ∷ fs) run = absurd run
    fetched_where_missed (x ∷ keys) [] run = absurd run
    fetched_where_missed (x ∷ keys) (f ∷ fs) run =
        let absent : lookup (eq x) old.cache.entries ≡ None = rw empty refl in
        let some = room_by old run.0 x f (lookup (eq x) old.cache.entries) absent run.1 in
        run_from old.cache.capacity old.cache.scale [] old last (x ∷ keys) (f ∷ fs) some none refl refl (rw empty (omega arith))
        (rw empty (HoldsHits_none eq old.cache.capacity)) run

    pub fetches_are_misses : (keys : List K) (fs : List Bool) → IsLoadRun eq weight fetches old keys fs last
        → FetchedKeys eq weight fetches (missed (marks eq old.cache.capacity keys) keys) old last
    fetches_are_misses keys fs run = subst (λ ms. FetchedKeys eq weight fetches (missed ms keys) old last) (fetched_where_missed keys fs run)
        (fetched_keys eq weight fetches old last keys fs run)

  -- one more load
  pub IsLoadRun-push : (old next last : Store K V W R) (keys : List K) (fs : List Bool) (x : K) (f : Bool) → IsLoadRun eq weight fetches old keys fs next
      → Loads eq (weight next.cache.scale) fetches next x (Ok (Held f)) last
      → IsLoadRun eq weight fetches old (keys ++ x ∷ []) (fs ++ f ∷ []) last
  IsLoadRun-push old next last [] [] x f run step = (last, rw (← run) step, refl)
  IsLoadRun-push old next last [] (g ∷ fs) x f run step = absurd run
  IsLoadRun-push old next last (y ∷ keys) [] x f run step = absurd run
  IsLoadRun-push old next last (y ∷ keys) (g ∷ fs) x f (mid, first, later) step = (mid, first, IsLoadRun-push mid next last keys fs x f later step)

-- so many loads fetched
pub fetch_count : {K : Type 0} (eq : K → K → Bool) (k : ℕ) (keys : List K) (fs : List Bool) → map not fs ≡ marks eq k keys
    → count_by (λ f. f) fs ≡ misses eq k keys
fetch_count eq k keys fs same = twice fs ∙ ap (count_by not) same
  where
    twice : (fs : List Bool) → count_by (λ f. f) fs ≡ count_by not (map not fs)
    twice [] = refl
    twice (f ∷ fs) = rw (sum_by-cons (λ b. cond b 1 0) f fs, count_by-not-cons (not f) (map not fs), twice fs) (split f (λ t. rw t refl) (λ f. rw f refl))

-- there are as many requests whose mark is false as there are misses
module _ {K : Type 0} (eq : K → K → Bool) (k : ℕ) where
  missed_after : (past keys : List K) → length (missed (marks_after eq k past keys) keys) ≡ count_by not (marks_after eq k past keys)
  missed_after past [] = refl
  missed_after past (x ∷ keys) =
      let rest = missed_after (x ∷ past) keys in
      rw (count_by-not-cons (hit eq k x past) (marks_after eq k (x ∷ past) keys))
      (split (hit eq k x past) (λ t. rw t (omega (arith, rest))) (λ f. rw f (omega (arith, rest))))

  pub missed_are_misses : (keys : List K) → length (missed (marks eq k keys) keys) ≡ misses eq k keys
  missed_are_misses keys = missed_after [] keys
