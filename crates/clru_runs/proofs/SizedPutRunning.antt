-- Each run of puts by weight of the model is a run of puts by weight over entry lists.
use Rattle.std.proofs.Common.{◌≡◌, ℕ, Bool, true, List, [], ◌∷◌, Ok, zero, suc, refl, sym, ap, ◌∙◌, subst}
use Rattle.std.specs.Cmp.{IsEquivalence}
use Rattle.clru_model.proofs.KeyedRuns.{sized_puts_hit}
use Rattle.clru.specs.Cache.{Cache}
use Rattle.clru_model.specs.Runs.{held_before}
use Rattle.clru_model.specs.Sizes.{SameWeights, marks_by_size}
use Rattle.clru_model.specs.SizedRuns.{IsSizedPut, IsSizedPutRun, PutsWeighAsKeys}
use Rattle.clru_runs.specs.declared.call.Answer.{Answer}
use Rattle.clru_runs.specs.declared.call.Answer.TheVariants.{Weighed}
use Rattle.clru_runs.specs.declared.call.Call.{Call}
use Rattle.clru_runs.specs.declared.call.Call.TheVariants.{PutWithWeight}
use Rattle.clru_runs.specs.Run.{Run}
use Rattle.clru_runs.specs.SizedPutRun.{PutsBySize, PutEachBySize, weighed_entries_of}
use Rattle.clru_runs.specs.Step.{Step}

module _ {K V W : Type 0} (eq : K → K → Bool) (laws : IsEquivalence eq) (scale_weight : W → K → V → ℕ) (weight : K → ℕ) (s : W) (k : ℕ) where
  abbrev pair_weight : K → V → ℕ
  pair_weight = scale_weight s

  -- a put of a run: the pair comes first and weighs what its key does, and capacity and scale stay
  record IsSizedStep (x : K) (old new : Cache K V W) : Type 0 where
    put : IsSizedPut eq pair_weight k x old.entries new.entries
    first : (key : K) (value : V) (rest : List (K × V)) → new.entries ≡ (key, value) ∷ rest → pair_weight key value ≡ weight key
    capacity : new.capacity ≡ k
    scale : new.scale ≡ s

  first_weighs : (y : K) (v : V) (es back : List (K × V)) → pair_weight y v ≡ weight y → es ≡ (y, v) ∷ back
      → (key : K) (value : V) (rest : List (K × V)) → es ≡ (key, value) ∷ rest → pair_weight key value ≡ weight key
  first_weighs y v es back weighs is key value rest other =
      let same : (y, v) ∷ back ≡ (key, value) ∷ rest = sym is ∙ other in
      let mine : K × V = (y, v) in
      let theirs : K × V = (key, value) in
      let pair : mine ≡ theirs = cc same in
      subst (λ e. pair_weight e.0 e.1 ≡ weight e.0) pair weighs

  sized_step : (x : K) (call : Call K V) (answer : Answer K V) (old new : Cache K V W) → old.capacity ≡ k → old.scale ≡ s
      → PutsBySize weight pair_weight x call answer → Step eq scale_weight old call answer new → IsSizedStep x old new
  sized_step x (PutWithWeight y v) (Weighed (Ok out)) old new wide scaled is step =
      let same : step.0 ≡ Ok out = cc in
      let accepts = rw same at step.2 in
      let light = rw (wide, scaled) at accepts.0 in
      let entries = rw (wide, scaled) at accepts.2.entries in
      record {
        put = record { key = y; value = v; same = subst (λ z. eq x z ≡ true) is.0 (laws.refl x); light = light; entries = entries };
        first = first_weighs y v new.entries _ is.1 entries;
        capacity = accepts.2.places.capacity ∙ wide;
        scale = accepts.2.places.scale ∙ scaled;
      }
  sized_step x call answer old new wide scaled is step = absurd is

  -- a run of such puts, with the entries after each
  record IsSizedRunFrom (old : Cache K V W) (lists : List (List (K × V))) (requests : List K) : Type 0 where
    later : List (List (K × V))
    begins : lists ≡ old.entries ∷ later
    run : IsSizedPutRun eq pair_weight k (old.entries ∷ later) requests
    weighs : PutsWeighAsKeys weight pair_weight later

  weigh_more : (next : List (K × V)) (later : List (List (K × V)))
      → ((key : K) (value : V) (rest : List (K × V)) → next ≡ (key, value) ∷ rest → pair_weight key value ≡ weight key)
      → PutsWeighAsKeys weight pair_weight later → PutsWeighAsKeys weight pair_weight (next ∷ later)
  weigh_more next later first weighs zero key value rest at = first key value rest (cc at)
  weigh_more next later first weighs (suc i) key value rest at = weighs i key value rest at

  run_by_size : (requests : List K) (old new : Cache K V W) (calls : List (Call K V)) (answers : List (Answer K V))
      → (run : Run (Step eq scale_weight) old calls answers new) → old.capacity ≡ k → old.scale ≡ s
      → PutEachBySize weight pair_weight requests calls answers
      → IsSizedRunFrom old (weighed_entries_of eq scale_weight old calls answers new run) requests
  run_by_size [] old new [] [] run wide scaled puts =
      record { later = []; begins = refl; run = refl; weighs = λ i key value rest at. cc at }
  run_by_size (x ∷ requests) old new (call ∷ calls) (answer ∷ answers) run wide scaled puts =
      let step = sized_step x call answer old run.0 wide scaled puts.0 run.1 in
      let rest = run_by_size requests run.0 new calls answers run.2 step.capacity step.scale puts.1 in
      record {
        later = run.0.entries ∷ rest.later;
        begins = ap (λ l. old.entries ∷ l) rest.begins;
        run = (step.put, rest.run);
        weighs = weigh_more run.0.entries rest.later step.first rest.weighs;
      }
  run_by_size requests old new calls answers run wide scaled puts = absurd puts

-- such a run from an empty cache hits by size
pub runs_hit_by_size : {K V W : Type 0} (eq : K → K → Bool) (laws : IsEquivalence eq) (scale_weight : W → K → V → ℕ) (weight : K → ℕ)
    (requests : List K) (old new : Cache K V W) (calls : List (Call K V)) (answers : List (Answer K V))
    → (run : Run (Step eq scale_weight) old calls answers new) → old.entries ≡ [] → SameWeights eq weight
    → PutEachBySize weight (scale_weight old.scale) requests calls answers
    → held_before eq (weighed_entries_of eq scale_weight old calls answers new run) requests ≡ marks_by_size eq weight old.capacity requests
runs_hit_by_size {K} {V} eq laws scale_weight weight requests old new calls answers run empty same puts =
    let r = run_by_size eq laws scale_weight weight old.scale old.capacity requests old new calls answers run refl refl puts in
    let begins = r.begins ∙ ap (λ es. es ∷ r.later) empty in
    ap (λ lists. held_before eq lists requests) begins
    ∙ sized_puts_hit eq V laws weight (scale_weight old.scale) old.capacity requests r.later same r.weighs
    (subst (λ es. IsSizedPutRun eq (scale_weight old.scale) old.capacity (es ∷ r.later) requests) empty r.run)
