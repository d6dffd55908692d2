-- Caches whose values tell when they were fetched hold, before each request, what the definition of hits with an age says.
use Rattle.std.proofs.Common.{◌≡◌, ℕ, ◌-◌, ◌≤◌, Bool, true, false, cond, Option, Some, None, List, [], ◌∷◌, ◌++◌, take, drop, is_some, slice_get}
use Rattle.std.proofs.Common.{refl, sym, ap, ◌∙◌, subst, arith}
use Rattle.std.proofs.lemmas.Bool.{and_parts}
use Rattle.std.proofs.lemmas.List.{take-append-drop}
use Rattle.std.proofs.lemmas.Map.Made.{is_some-lookup}
use Rattle.std.proofs.lemmas.Option.{same_Some}
use Rattle.std.specs.Cmp.{IsEquivalence}
use Rattle.std.specs.Map.{keys_of, lookup}
use Rattle.clru_model.specs.Ages.{is_recent, aged_hit, aged_marks_after}
use Rattle.clru_model.specs.AgedRuns.{is_fresh, IsAgedStep, fresh_before, AgedPutsHit, SizedAgedPutsHit}
use Rattle.clru_model.specs.Entries.{without, touch, size_of, fit}
use Rattle.clru_model.specs.Requests.{holds, hit, marks_after}
use Rattle.clru_model.specs.Runs.{IsRunOf, IsGetOr, IsPut, held_before}
use Rattle.clru_model.specs.SizedRuns.{IsSizedPut}
use Rattle.clru_model.specs.Sizes.{hit_by_size, marks_by_size_after}
use Rattle.clru_model.proofs.Cases.{split}
use Rattle.clru_model.proofs.Distinct.{same_right}
use Rattle.clru_model.proofs.Finding.{IsHeld, touch-held}
use Rattle.clru_model.proofs.Fitting.{fit_is_longest}
use Rattle.clru_model.proofs.GetRuns.{run_of_keys, IsPut-get, IsSizedPut-get, sized_put_fits}
use Rattle.clru_model.proofs.IdleMarks.{recent_unlimited}
use Rattle.clru_model.proofs.KeyedRuns.{sized_puts_hit}
use Rattle.clru_model.proofs.Lookups.{by_entry, lookup-same}
use Rattle.clru_model.proofs.PutRuns.{held_before_marks}

-- what is found among the first entries is found among all
lookup-front : {K V : Type 0} (test : K → Bool) (front back : List (K × V)) {v : V} → lookup test front ≡ Some v → lookup test (front ++ back) ≡ Some v
lookup-front test [] back h = cc
lookup-front test (e ∷ front) back h = split (test e.0) (λ t. rw t (rw t at h)) (λ f. rw f (lookup-front test front back (rw f at h)))

-- for each request in order whether it hits, by any test of a key and its past
abbrev marks_by : {K : Type 0} → (K → List K → Bool) → (past rs : List K) → List Bool
marks_by hits past [] = []
marks_by hits past (x ∷ rs) = hits x past ∷ marks_by hits (x ∷ past) rs

module _ {K V : Type 0} (eq : K → K → Bool) (laws : IsEquivalence eq) where
  -- another key has the same value once an entry is taken out
  lookup-without_other : (x y : K) (es : List (K × V)) → eq x y ≡ false → lookup (eq x) (without eq y es) ≡ lookup (eq x) es
  lookup-without_other x y [] apart = refl
  lookup-without_other x y (e ∷ es) apart = split (eq y e.0)
      (λ t. let other : eq x e.0 ≡ false = sym (same_right eq laws y e.0 x t) ∙ apart in rw (t, other) refl)
      (λ f. rw f (split (eq x e.0) (λ u. rw u refl) (λ n. rw n (lookup-without_other x y es apart))))

  -- after a step at y: a pair of y, and then other keys with values that they had before
  record IsFirst (y : K) (es next : List (K × V)) : Type 0 where
    first : K × V
    rest : List (K × V)
    same : eq y first.0 ≡ true
    entries : next ≡ first ∷ rest
    found : (x : K) (v : V) → eq x y ≡ false → lookup (eq x) rest ≡ Some v → lookup (eq x) es ≡ Some v

  IsFirst_put : (k : ℕ) (y : K) (es next : List (K × V)) → IsPut eq k y es next → IsFirst y es next
  IsFirst_put k y es next put = record {
    first = (put.key, put.value);
    rest = cond (holds eq y (keys_of es)) (without eq y es) (take (k - 1) es);
    same = put.same;
    entries = put.entries;
    found = λ x v apart found. split (holds eq y (keys_of es))
        (λ t. sym (lookup-without_other x y es apart) ∙ rw t at found)
        (λ f. subst (λ l. lookup (eq x) l ≡ Some v) (take-append-drop (k - 1) es)
        (lookup-front (eq x) (take (k - 1) es) (drop (k - 1) es) (rw f at found)));
  }

  IsFirst_sized : (pair_weight : K → V → ℕ) (c : ℕ) (y : K) (es next : List (K × V)) → IsSizedPut eq pair_weight c y es next → IsFirst y es next
  IsFirst_sized pair_weight c y es next put =
      let room = c - 1 - pair_weight put.key put.value in
      let longest = fit_is_longest pair_weight room (without eq put.key es) in record {
        first = (put.key, put.value);
        rest = fit pair_weight room (without eq put.key es);
        same = put.same;
        entries = put.entries;
        found = λ x v apart found.
            sym (lookup-without_other x put.key es (sym (same_right eq laws y put.key x put.same) ∙ apart))
            ∙ subst (λ l. lookup (eq x) l ≡ Some v) (sym longest.begins)
            (lookup-front (eq x) (fit pair_weight room (without eq put.key es)) longest.rest found);
      }

  -- where a key is held before its step exactly if it hits, after requests of the past
  module _ (hits : K → List K → Bool) (came : (x : K) (past : List K) → hits x past ≡ true → holds eq x past ≡ true)
      (fetched_at : V → ℕ) (age : Option ℕ) (put : K → List (K × V) → List (K × V) → Type 0)
      (first : (y : K) (es next : List (K × V)) → put y es next → IsFirst y es next) where
    -- each value tells the time of the latest fetch of its key
    abbrev AreTold : List (K × V) → List (K × ℕ) → Type 0
    AreTold es fetches = (x : K) (v : V) → lookup (eq x) es ≡ Some v → lookup (eq x) fetches ≡ Some (fetched_at v)

    -- the key is held fresh where the request hits
    fresh_is_hit : (r : K × ℕ) (past fetches : List (K × ℕ)) (es : List (K × V)) → AreTold es fetches
        → holds eq r.0 (keys_of es) ≡ hits r.0 (keys_of past) → is_fresh eq fetched_at age r es ≡ aged_hit eq hits None age r past fetches
    fresh_is_hit r past fetches es told held =
        let found : is_some (lookup (eq r.0) es) ≡ hits r.0 (keys_of past) = is_some-lookup (eq r.0) es ∙ held in
        by_entry eq r.0 es
        (λ h. let hit : hits r.0 (keys_of past) ≡ true = sym found ∙ ap is_some h.value in
        let recent : is_recent eq None r past ≡ true = recent_unlimited eq r past ∙ came r.0 (keys_of past) hit in
        rw (h.value, hit, recent, told r.0 h.entry.1 h.value) refl)
        (λ m. let miss : hits r.0 (keys_of past) ≡ false = sym found ∙ ap is_some m.value in rw (m.value, miss) refl)

    -- after a step that leaves such a pair first
    told_next : (r : K × ℕ) (fetches fetches' : List (K × ℕ)) (es next : List (K × V)) → AreTold es fetches → (f : IsFirst r.0 es next)
        → lookup (eq r.0) fetches' ≡ Some (fetched_at f.first.1)
        → ((x : K) → eq x r.0 ≡ false → lookup (eq x) fetches' ≡ lookup (eq x) fetches) → AreTold next fetches'
    told_next r fetches fetches' es next told f here others x v found =
        let there = rw f.entries at found in
        let key : eq x r.0 ≡ eq x f.first.0 = same_right eq laws r.0 f.first.0 x f.same in
        split (eq x r.0)
        (λ t. let at_first : eq x f.first.0 ≡ true = sym key ∙ t in
        let value : f.first.1 ≡ v = same_Some f.first.1 v (rw at_first at there) in
        sym (lookup-same laws x r.0 t fetches') ∙ here ∙ ap (λ w. Some (fetched_at w)) value)
        (λ n. let past : eq x f.first.0 ≡ false = sym key ∙ n in
        others x n ∙ told x v (f.found x v n (rw past at there)))

    told_touched : (r : K × ℕ) (fetches : List (K × ℕ)) (es next : List (K × V)) → AreTold es fetches → (h : IsHeld (eq r.0) es)
        → next ≡ touch eq r.0 es → AreTold next fetches
    told_touched r fetches es next told h touched = told_next r fetches fetches es next told (record {
      first = h.entry;
      rest = without eq r.0 es;
      same = h.passes;
      entries = touched ∙ touch-held eq r.0 h;
      found = λ x v apart found. sym (lookup-without_other x r.0 es apart) ∙ found;
    }) (told r.0 h.entry.1 h.value) (λ x apart. refl)

    fresh_by_marks : (past fetches : List (K × ℕ)) (es : List (K × V)) (later : List (List (K × V))) (rs : List (K × ℕ)) → AreTold es fetches
        → IsRunOf (IsAgedStep eq fetched_at age put) (es ∷ later) rs
        → held_before eq (es ∷ later) (keys_of rs) ≡ marks_by hits (keys_of past) (keys_of rs)
        → fresh_before eq fetched_at age (es ∷ later) rs ≡ aged_marks_after eq hits None age past fetches rs
    fresh_by_marks past fetches es later [] told run marks = refl
    fresh_by_marks past fetches es [] (r ∷ rs) told run marks = absurd run.0
    fresh_by_marks past fetches es (next ∷ later) (r ∷ rs) told run marks =
        let is = fresh_is_hit r past fetches es told (same_Some _ _ (ap (λ ms. slice_get ms 0) marks)) in
        let rest = ap (drop 1) marks in
        split (is_fresh eq fetched_at age r es)
        (λ t. let h = by_entry eq r.0 es (λ h. h) (λ m. let no : false ≡ true = rw m.value at t in cc) in
        let after = fresh_by_marks (r ∷ past) fetches next later rs (told_touched r fetches es next told h (run.0.fresh t)) run.1 rest in
        rw (t, sym is ∙ t) (ap (λ ms. true ∷ ms) after))
        (λ f. let p = first r.0 es next (run.0.stale f) in
        let now : lookup (eq r.0) (r ∷ fetches) ≡ Some (fetched_at p.first.1) =
        rw (laws.refl r.0) (ap Some (sym (run.0.fetched f p.first p.rest p.entries))) in
        let after = fresh_by_marks (r ∷ past) (r ∷ fetches) next later rs
        (told_next r fetches (r ∷ fetches) es next told p now (λ x apart. rw apart refl)) run.1 rest in
        rw (f, sym is ∙ f) (ap (λ ms. false ∷ ms) after))

  -- a fresh value is one of a key that is held
  held_fresh : (fetched_at : V → ℕ) (age : Option ℕ) (r : K × ℕ) (es : List (K × V)) → is_fresh eq fetched_at age r es ≡ true
      → holds eq r.0 (keys_of es) ≡ true
  held_fresh fetched_at age r es fresh = sym (is_some-lookup (eq r.0) es) ∙ by_entry eq r.0 es
      (λ h. ap is_some h.value)
      (λ m. let no : false ≡ true = rw m.value at fresh in cc)

  -- a step is a look-up of a key that is held, or a put
  put_of_step : (fetched_at : V → ℕ) (age : Option ℕ) (put : K → List (K × V) → List (K × V) → Type 0) (r : K × ℕ) (es next : List (K × V))
      → (IsGetOr put eq r.0 es next → put r.0 es next) → IsAgedStep eq fetched_at age put r es next → put r.0 es next
  put_of_step fetched_at age put r es next from_get step = split (is_fresh eq fetched_at age r es)
      (λ t. from_get (record {
        held = λ h. step.fresh t;
        missed = λ m. let h = held_fresh fetched_at age r es t in cc;
      }))
      step.stale

module _ {K : Type 0} (eq : K → K → Bool) (V : Type 0) (laws : IsEquivalence eq) where
  marks_after_by : (k : ℕ) (past rs : List K) → marks_after eq k past rs ≡ marks_by (hit eq k) past rs
  marks_after_by k past [] = refl
  marks_after_by k past (x ∷ rs) = ap (λ ms. hit eq k x past ∷ ms) (marks_after_by k (x ∷ past) rs)

  marks_by_size_after_by : (weight : K → ℕ) (c : ℕ) (past rs : List K)
      → marks_by_size_after eq weight c past rs ≡ marks_by (hit_by_size eq weight c) past rs
  marks_by_size_after_by weight c past [] = refl
  marks_by_size_after_by weight c past (x ∷ rs) =
      ap (λ ms. hit_by_size eq weight c x past ∷ ms) (marks_by_size_after_by weight c (x ∷ past) rs)

  pub aged_puts_hit : AgedPutsHit eq V
  aged_puts_hit fetched_at age k rs later some run =
      let puts = run_of_keys (λ (r : K × ℕ). r.0) (λ _. Unit {0}) (IsAgedStep eq fetched_at age (IsPut eq k)) (IsPut eq k)
      (λ r es next fits step. (put_of_step eq laws fetched_at age (IsPut eq k) r es next (IsPut-get eq V laws k r.0 es next) step, tt))
      [] later rs tt run in
      fresh_by_marks eq laws (hit eq k) (λ x past h. (and_parts (holds eq x past) _ h).0) fetched_at age (IsPut eq k)
      (IsFirst_put eq laws k) [] [] [] later rs (λ x v found. cc) run
      (held_before_marks eq laws k some (keys_of rs) later puts ∙ marks_after_by k [] (keys_of rs))

  pub sized_aged_puts_hit : SizedAgedPutsHit eq V
  sized_aged_puts_hit weight pair_weight fetched_at age c rs later same weigh run =
      let puts = run_of_keys (λ (r : K × ℕ). r.0) (λ es. size_of pair_weight es ≤ c)
      (IsAgedStep eq fetched_at age (IsSizedPut eq pair_weight c)) (IsSizedPut eq pair_weight c)
      (λ r es next fits step. let put = put_of_step eq laws fetched_at age (IsSizedPut eq pair_weight c) r es next
      (IsSizedPut-get eq V laws pair_weight c r.0 es next fits) step in
      (put, sized_put_fits eq V laws pair_weight c r.0 es next put)) [] later rs (omega arith) run in
      fresh_by_marks eq laws (hit_by_size eq weight c) (λ x past h. (and_parts (holds eq x past) _ h).0) fetched_at age
      (IsSizedPut eq pair_weight c) (IsFirst_sized eq laws pair_weight c) [] [] [] later rs (λ x v found. cc) run
      (sized_puts_hit eq V laws weight pair_weight c (keys_of rs) later same weigh puts ∙ marks_by_size_after_by weight c [] (keys_of rs))
