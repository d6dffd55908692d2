-- Why loads through an empty cache fetch exactly where requests miss by size, where each loaded pair weighs what its key does.
use Rattle.std.proofs.Common.{◌≡◌, ℕ, zero, suc, Bool, true, false, not, List, [], ◌∷◌, ◌++◌, map, IsSomeAnd, slice_get, Result, Ok, refl, sym, ap, ◌∙◌, subst, arith}
use Rattle.std.specs.Cmp.{IsEquivalence}
use Rattle.std.specs.Map.{keys_of}
use Rattle.clru_model.specs.Entries.{size_of}
use Rattle.clru_model.specs.Requests.{holds}
use Rattle.clru_model.specs.Runs.{IsRunOf, IsGetOr, held_before}
use Rattle.clru_model.specs.Sizes.{SameWeights, marks_by_size, missed_size}
use Rattle.clru_model.specs.SizedRuns.{IsSizedPut, PutsWeighAsKeys}
use Rattle.clru_model.specs.Spans.{size_of_misses}
use Rattle.clru_model.proofs.Fitting.{size_of-cons}
use Rattle.clru_model.proofs.GetRuns.{sized_gets_or_puts_are_puts}
use Rattle.clru_model.proofs.KeyedRuns.{sized_puts_hit}
use Rattle.clru_model.proofs.Spans.{missed_by_marks}
use Rattle.clru_through.specs.LoadRuns.{AreFetched, FetchedSize, FrontWeighs, IsSizedLoadRun, missed}
use Rattle.clru_through.specs.Steps.{Loads}
use Rattle.clru_through.specs.Store.{Store}
use Rattle.clru_through.specs.declared.answer.Loaded.TheVariants.{Held}
use Rattle.clru_through.proofs.LoadRuns.{HoldingLoad, holding_load, holds-lookup, steady}

puts_weigh-cons : {K V : Type 0} (size : K → ℕ) (pair_weight : K → V → ℕ) (es : List (K × V)) (later : List (List (K × V)))
    → IsSomeAnd (slice_get es 0) (λ e. pair_weight e.0 e.1 ≡ size e.0) → PutsWeighAsKeys size pair_weight later
    → PutsWeighAsKeys size pair_weight (es ∷ later)
puts_weigh-cons size pair_weight es later front rest zero key value back h =
    let is : es ≡ (key, value) ∷ back = cc h in rw is at front
puts_weigh-cons size pair_weight es later front rest (suc i) key value back h = rest i key value back h

module _ {K V W R E : Type 0} (eq : K → K → Bool) (laws : IsEquivalence eq) (weight : W → K → V → ℕ)
    (fetches : R → K → Result V E → R → Type 0) where
  -- a load whose value is held is a look-up, and a put where it finds nothing
  get_of_load : (old new : Store K V W R) (x : K) (f : Bool) → HoldingLoad eq weight fetches f old new x
      → IsGetOr (IsSizedPut eq (weight old.cache.scale) old.cache.capacity) eq x old.cache.entries new.cache.entries
  get_of_load old new x true load =
      let absent : holds eq x (keys_of old.cache.entries) ≡ false = rw (← holds-lookup eq x old.cache.entries, load.absent) refl in record {
        held = λ t. let no : true ≡ false = sym t ∙ absent in cc;
        missed = λ f. record {
          key = x;
          value = load.value;
          same = laws.refl x;
          light = load.stored.light;
          entries = load.stored.entries;
        };
      }
  get_of_load old new x false load =
      let there : holds eq x (keys_of old.cache.entries) ≡ true = rw (← holds-lookup eq x old.cache.entries, load.there) refl in record {
        held = λ t. rw load.ends refl;
        missed = λ f. let no : true ≡ false = sym there ∙ f in cc;
      }

  module _ (size : K → ℕ) (c : ℕ) (s : W) where
    -- the entries after each load
    record IsRunOfGets (old : Store K V W R) (keys : List K) (fs : List Bool) : Type 0 where
      later : List (List (K × V))
      run : IsRunOf (IsGetOr (IsSizedPut eq (weight s) c) eq) (old.cache.entries ∷ later) keys
      held : held_before eq (old.cache.entries ∷ later) keys ≡ map not fs
      weigh : PutsWeighAsKeys size (weight s) later

    run_of_gets : (old last : Store K V W R) (keys : List K) (fs : List Bool) → old.cache.capacity ≡ c → old.cache.scale ≡ s
        → IsSizedLoadRun eq weight fetches size old keys fs last → IsRunOfGets old keys fs
    run_of_gets old last [] [] capacity scale run = record { later = []; run = refl; held = refl; weigh = λ i key value back h. cc h }
    run_of_gets old last [] (f ∷ fs) capacity scale run = absurd run
    run_of_gets old last (x ∷ keys) [] capacity scale run = absurd run
    run_of_gets old last (x ∷ keys) (f ∷ fs) capacity scale (next, step, front, later) =
        let load = holding_load eq weight fetches old next x f step in let stays = steady eq weight fetches old next x f load in
        let get = rw (scale, capacity) at (get_of_load old next x f load) in
        let rest = run_of_gets next last keys fs (stays.capacity ∙ capacity) (stays.scale ∙ scale) later in
        let weighs = rw (stays.scale ∙ scale) at front in record {
          later = next.cache.entries ∷ rest.later;
          run = (get, rest.run);
          held = cc (stays.found, rest.held);
          weigh = puts_weigh-cons size (weight s) next.cache.entries rest.later weighs rest.weigh;
        }

    -- the pairs that are fetched, and their size
    fetched_size : (old last : Store K V W R) (keys : List K) (fs : List Bool) → old.cache.scale ≡ s
        → IsSizedLoadRun eq weight fetches size old keys fs last
        → (pairs : List (K × V)) × AreFetched fetches pairs old.source last.source × (keys_of pairs ≡ missed (map not fs) keys)
        × (size_of (weight s) pairs ≡ size_of_misses size (map not fs) keys)
    fetched_size old last [] [] scale run = ([], ap (λ t. t.source) run, refl, refl)
    fetched_size old last [] (f ∷ fs) scale run = absurd run
    fetched_size old last (x ∷ keys) [] scale run = absurd run
    fetched_size old last (x ∷ keys) (true ∷ fs) scale (next, step, front, later) =
        let load = holding_load eq weight fetches old next x true step in
        let stays = steady eq weight fetches old next x true load in
        let (pairs, fetched, are, sum) = fetched_size next last keys fs (stays.scale ∙ scale) later in
        let weighs : weight s x load.value ≡ size x = rw (stays.scale ∙ scale, load.stored.entries) at front in (
          (x, load.value) ∷ pairs,
          (next.source, load.fetch, fetched),
          ap (λ ks. x ∷ ks) are,
          omega (arith, size_of-cons (weight s) (x, load.value) pairs, weighs, sum),
        )
    fetched_size old last (x ∷ keys) (false ∷ fs) scale (next, step, front, later) =
        let load = holding_load eq weight fetches old next x false step in
        let stays = steady eq weight fetches old next x false load in
        let (pairs, fetched, are, sum) = fetched_size next last keys fs (stays.scale ∙ scale) later in
        let same : next.source ≡ old.source = rw load.ends refl in
        (pairs, subst (λ t. AreFetched fetches pairs t last.source) same fetched, are, omega (arith, sum))

  module _ (size : K → ℕ) (same : SameWeights eq size) (old last : Store K V W R) (empty : old.cache.entries ≡ []) where
    -- a load fetches exactly where the request misses by size
    pub fetched_where_missed_by_size : (keys : List K) (fs : List Bool) → IsSizedLoadRun eq weight fetches size old keys fs last
        → map not fs ≡ marks_by_size eq size old.cache.capacity keys
    fetched_where_missed_by_size keys fs run =
        let c = old.cache.capacity in let w = weight old.cache.scale in
        let gets = run_of_gets size c old.cache.scale old last keys fs refl refl run in
        let held = subst (λ es. held_before eq (es ∷ gets.later) keys ≡ map not fs) empty gets.held in
        let puts = sized_gets_or_puts_are_puts eq V laws w c keys [] gets.later (omega arith)
        (subst (λ es. IsRunOf (IsGetOr (IsSizedPut eq w c) eq) (es ∷ gets.later) keys) empty gets.run) in
        sym held ∙ sized_puts_hit eq V laws size w c keys gets.later same gets.weigh puts

    -- and the size of what is fetched is the missed size
    pub fetched_size_is_missed : (keys : List K) (fs : List Bool) → IsSizedLoadRun eq weight fetches size old keys fs last
        → FetchedSize eq weight fetches (missed (marks_by_size eq size old.cache.capacity keys) keys)
        (missed_size eq size old.cache.capacity keys) old last
    fetched_size_is_missed keys fs run =
        let c = old.cache.capacity in let marked = fetched_where_missed_by_size keys fs run in
        let (pairs, fetched, are, sum) = fetched_size size c old.cache.scale old last keys fs refl run in (
          pairs,
          fetched,
          are ∙ ap (λ ms. missed ms keys) marked,
          sum ∙ ap (λ ms. size_of_misses size ms keys) marked ∙ sym (missed_by_marks eq size c [] keys),
        )

  -- one more load
  pub IsSizedLoadRun-push : (size : K → ℕ) (old next last : Store K V W R) (keys : List K) (fs : List Bool) (x : K) (f : Bool)
      → IsSizedLoadRun eq weight fetches size old keys fs next → Loads eq (weight next.cache.scale) fetches next x (Ok (Held f)) last
      → FrontWeighs eq weight fetches size last → IsSizedLoadRun eq weight fetches size old (keys ++ x ∷ []) (fs ++ f ∷ []) last
  IsSizedLoadRun-push size old next last [] [] x f run step front = (last, rw (← run) step, front, refl)
  IsSizedLoadRun-push size old next last [] (g ∷ fs) x f run step front = absurd run
  IsSizedLoadRun-push size old next last (y ∷ keys) [] x f run step front = absurd run
  IsSizedLoadRun-push size old next last (y ∷ keys) (g ∷ fs) x f (mid, first, weighs, later) step front =
      (mid, first, weighs, IsSizedLoadRun-push size mid next last keys fs x f later step front)
