-- Each run of puts of the model is a run of puts over entry lists.
use Rattle.std.proofs.Common.{◌≡◌, ℕ, ◌≤◌, Bool, List, [], ◌∷◌, length, Ok, refl, sym, ap, ◌∙◌, subst, arith}
use Rattle.std.specs.Cmp.{IsEquivalence}
use Rattle.clru_model.proofs.PutSteps.{IsPut-plain, IsPut-weightless, length-put}
use Rattle.clru.specs.Cache.{Cache}
use Rattle.clru_model.specs.Entries.{plain_put}
use Rattle.clru_model.specs.Runs.{StepsTo, IsPut, IsPutRun}
use Rattle.clru_runs.specs.declared.call.Answer.{Answer}
use Rattle.clru_runs.specs.declared.call.Answer.TheVariants.{Stored, Weighed, Lent, Tried}
use Rattle.clru_runs.specs.declared.call.Attempt.TheVariants.{Store}
use Rattle.clru_runs.specs.declared.call.Call.TheVariants.{PutWithWeight}
use Rattle.clru_runs.specs.declared.call.PlainCall.{PlainCall}
use Rattle.clru_runs.specs.declared.call.PlainCall.TheVariants.{Put, PutOrModify, TryPutOrModify, Any}
use Rattle.clru_runs.specs.PutRun.{PutsKey, PutEach, entries_of}
use Rattle.clru_runs.specs.Run.{Run}
use Rattle.clru_runs.specs.Step.{PlainStep}

module _ {K V W : Type 0} (eq : K → K → Bool) where
  -- the entries of a run begin with those before its first call
  entries_first : (old : Cache K V W) (calls : List (PlainCall K V)) (answers : List (Answer K V)) (new : Cache K V W)
      → (run : Run (PlainStep eq) old calls answers new) → (later : List (List (K × V))) × (entries_of eq old calls answers new run ≡ old.entries ∷ later)
  entries_first old [] [] new run = ([], refl)
  entries_first old (call ∷ calls) (answer ∷ answers) new run = (entries_of eq run.0 calls answers new run.2, refl)
  entries_first old [] (answer ∷ answers) new run = absurd run
  entries_first old (call ∷ calls) [] new run = absurd run

module _ {K V W : Type 0} (eq : K → K → Bool) (laws : IsEquivalence eq) where
  -- a put of a run, and that the capacity stays
  pub record IsPutStep (x : K) (old new : Cache K V W) : Type 0 where
    pub put : IsPut eq old.capacity x old.entries new.entries
    pub capacity : new.capacity ≡ old.capacity

  plain_step : (x : K) (v : V) (old new : Cache K V W) → new.entries ≡ plain_put eq old.capacity x v old.entries → new.capacity ≡ old.capacity
      → IsPutStep x old new
  plain_step x v old new entries capacity = record {
    put = IsPut-plain eq laws old.capacity x v old.entries new.entries entries;
    capacity = capacity;
  }

  put_step : (x : K) (call : PlainCall K V) (answer : Answer K V) (old new : Cache K V W) → length old.entries ≤ old.capacity
      → PutsKey x call answer → PlainStep eq old call answer new → IsPutStep x old new
  put_step x (Put y v) (Stored (Ok out)) old new short is step =
      let same : step.0 ≡ Ok out = cc in
      let accepts = rw same at step.2 in
      rw is (plain_step y v old new accepts.1.entries accepts.1.places.capacity)
  put_step x (PutOrModify y v) (Lent (Ok value)) old new short is step =
      let same : step.0 ≡ Ok value = cc in
      let accepts = rw same at step.2 in
      rw is (plain_step y v old new accepts.1.entries accepts.1.places.capacity)
  put_step x (TryPutOrModify y (Store v)) (Tried (Ok value)) old new short is step =
      let same : step.0 ≡ Ok value = cc in
      let accepts = rw same at step.2 in
      rw is (plain_step y v old new accepts.1.entries accepts.1.places.capacity)
  put_step x (Any (PutWithWeight y v)) (Weighed (Ok out)) old new short is step =
      let same : step.0 ≡ Ok out = cc in
      let accepts = rw same at step.2 in
      rw is (record {
        put = IsPut-weightless eq laws old.capacity y v old.entries new.entries (λ _ _. 0) (λ _ _. refl) short accepts.2.entries;
        capacity = accepts.2.places.capacity;
      })
  put_step x call answer old new short is step = absurd is

  -- each of its puts is one of the run of entry lists
  run_of_puts : (k : ℕ) (requests : List K) (old new : Cache K V W) (calls : List (PlainCall K V)) (answers : List (Answer K V))
      → (run : Run (PlainStep eq) old calls answers new) → 1 ≤ k → old.capacity ≡ k → length old.entries ≤ k → PutEach requests calls answers
      → IsPutRun eq k (entries_of eq old calls answers new run) requests
  run_of_puts k [] old new [] [] run some is short puts = refl
  run_of_puts k (x ∷ requests) old new (call ∷ calls) (answer ∷ answers) run some is short puts =
      let step = put_step x call answer old run.0 (rw is short) puts.0 run.1 in
      let put = subst (λ c. IsPut eq c x old.entries run.0.entries) is step.put in
      let (later, first) = entries_first eq run.0 calls answers new run.2 in (
        subst (λ l. StepsTo (IsPut eq k) old.entries x l) (sym first) put,
        run_of_puts k requests run.0 new calls answers run.2 some (step.capacity ∙ is) (length-put eq k x old.entries run.0.entries some short put) puts.1,
      )
  run_of_puts k requests old new calls answers run some is short puts = absurd puts

  module _ (requests : List K) (old new : Cache K V W) (calls : List (PlainCall K V)) (answers : List (Answer K V))
      (run : Run (PlainStep eq) old calls answers new) (empty : old.entries ≡ []) (some : 1 ≤ old.capacity) (puts : PutEach requests calls answers) where
    -- a run of puts of the model is one of entry lists
    pub put_run : IsPutRun eq old.capacity (entries_of eq old calls answers new run) requests
    put_run = run_of_puts old.capacity requests old new calls answers run some refl (rw empty (omega arith)) puts

    -- so it starts with the empty list
    starts_empty : (later : List (List (K × V))) × (entries_of eq old calls answers new run ≡ [] ∷ later)
    starts_empty = let (later, first) = entries_first eq old calls answers new run in (later, first ∙ ap (λ l. l ∷ later) empty)

    -- what is true of each run of puts of entry lists is true of it
    pub from_put_run : (P : List (List (K × V)) → Type 0) → ((later : List (List (K × V))) → IsPutRun eq old.capacity ([] ∷ later) requests → P ([] ∷ later))
        → P (entries_of eq old calls answers new run)
    from_put_run P each =
        let (later, first) = starts_empty in
        subst P (sym first) (each later (subst (λ l. IsPutRun eq old.capacity l requests) first put_run))
