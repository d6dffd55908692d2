-- Runs of look-ups, each followed by a put where it finds nothing, are runs of puts; and what runs of puts drop.
use Rattle.std.proofs.Common.{◌≡◌, ℕ, ◌-◌, ◌≤◌, Bool, List, [], ◌∷◌, map, refl, sym, ap, ◌∙◌, subst, arith}
use Rattle.std.specs.Cmp.{IsEquivalence}
use Rattle.std.specs.Map.{keys_of}
use Rattle.clru_model.specs.Entries.{without, size_of, fit, weighted_put}
use Rattle.clru_model.specs.Laws.{GetsOrPutsArePuts}
use Rattle.clru_model.specs.Requests.{holds}
use Rattle.clru_model.specs.Runs.{IsRunOf, IsGetOr, IsPut}
use Rattle.clru_model.specs.SizedRuns.{IsSizedPut, SizedGetsOrPutsArePuts}
use Rattle.clru_model.proofs.Cases.{split}
use Rattle.clru_model.proofs.Fitting.{size_of-cons, size_of-fit}
use Rattle.clru_model.proofs.KeyedRuns.{held_entry, touches_are_puts}

module _ {K V : Type 0} (Fits : List (K × V) → Type 0) (step other : K → List (K × V) → List (K × V) → Type 0)
    (each : (x : K) (es next : List (K × V)) → Fits es → step x es next → other x es next × Fits next) where
  -- a run of steps, each of which is one of another kind, is a run of those
  pub run_of_other : (es : List (K × V)) (later : List (List (K × V))) (rs : List K) → Fits es → IsRunOf step (es ∷ later) rs
      → IsRunOf other (es ∷ later) rs
  run_of_other es later [] fits run = run
  run_of_other es [] (x ∷ rs) fits run = absurd run.0
  run_of_other es (next ∷ later) (x ∷ rs) fits run =
      let step = each x es next fits run.0 in
      (step.0, run_of_other next later rs step.1 run.1)

module _ {R K V : Type 0} (key : R → K) (Fits : List (K × V) → Type 0) (step : R → List (K × V) → List (K × V) → Type 0)
    (other : K → List (K × V) → List (K × V) → Type 0)
    (each : (r : R) (es next : List (K × V)) → Fits es → step r es next → other (key r) es next × Fits next) where
  -- and so where the steps are those of the requests' keys
  pub run_of_keys : (es : List (K × V)) (later : List (List (K × V))) (rs : List R) → Fits es → IsRunOf step (es ∷ later) rs
      → IsRunOf other (es ∷ later) (map key rs)
  run_of_keys es later [] fits run = run
  run_of_keys es [] (r ∷ rs) fits run = absurd run.0
  run_of_keys es (next ∷ later) (r ∷ rs) fits run =
      let step = each r es next fits run.0 in
      (step.0, run_of_keys next later rs step.1 run.1)

module _ {K : Type 0} (eq : K → K → Bool) (V : Type 0) (laws : IsEquivalence eq) where
  -- a look-up of a key that is held is a put of its pair
  pub IsPut-get : (k : ℕ) (x : K) (es next : List (K × V)) → IsGetOr (IsPut eq k) eq x es next → IsPut eq k x es next
  IsPut-get k x es next step = split (holds eq x (keys_of es))
      (λ t. let (e, found, same, size) = held_entry eq (λ _ _. 0) x es t in
      record { key = e.0; value = e.1; same = same; entries = step.held t ∙ rw (found, t) refl })
      step.missed

  pub gets_or_puts_are_puts : GetsOrPutsArePuts eq V
  gets_or_puts_are_puts k rs [] run = run
  gets_or_puts_are_puts k rs (es ∷ later) run =
      run_of_other (λ _. Unit {0}) (IsGetOr (IsPut eq k) eq) (IsPut eq k) (λ x es next fits step. (IsPut-get k x es next step, tt)) es later rs tt run

  module _ (pair_weight : K → V → ℕ) (c : ℕ) where
    -- what a put by weight leaves fits
    pub sized_put_fits : (x : K) (es next : List (K × V)) → IsSizedPut eq pair_weight c x es next → size_of pair_weight next ≤ c
    sized_put_fits x es next p =
        let fits = size_of-fit pair_weight (c - 1 - pair_weight p.key p.value) (without eq p.key es) in
        let sum = size_of-cons pair_weight (p.key, p.value) (fit pair_weight (c - 1 - pair_weight p.key p.value) (without eq p.key es)) in
        let whole : size_of pair_weight next ≡ size_of pair_weight (weighted_put eq pair_weight c p.key p.value es) = ap (size_of pair_weight) p.entries in
        omega (arith, fits, sum, whole, p.light)

    pub IsSizedPut-get : (x : K) (es next : List (K × V)) → size_of pair_weight es ≤ c → IsGetOr (IsSizedPut eq pair_weight c) eq x es next
        → IsSizedPut eq pair_weight c x es next
    IsSizedPut-get x es next small step = split (holds eq x (keys_of es))
        (λ t. subst (IsSizedPut eq pair_weight c x es) (sym (step.held t)) (touches_are_puts eq V laws pair_weight c x es small t))
        step.missed

  pub sized_gets_or_puts_are_puts : SizedGetsOrPutsArePuts eq V
  sized_gets_or_puts_are_puts pair_weight c rs first later small run =
      run_of_other (λ es. size_of pair_weight es ≤ c) (IsGetOr (IsSizedPut eq pair_weight c) eq) (IsSizedPut eq pair_weight c)
      (λ x es next fits step. let put = IsSizedPut-get pair_weight c x es next fits step in (put, sized_put_fits pair_weight c x es next put))
      first later rs small run
