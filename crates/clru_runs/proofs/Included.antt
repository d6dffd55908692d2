-- A run of calls that keep the inclusion is a run of the calls of `law_inclusion`.
use Rattle.std.proofs.Common.{◌≡◌, ℕ, ◌<◌, ◌≤◌, lt-ltb, Bool, List, [], ◌∷◌, ◌++◌, map, Ok, refl, sym, ap, ◌∙◌}
use Rattle.clru_model.proofs.Inclusion.{after_all_begins}
use Rattle.clru.specs.Cache.{Cache}
use Rattle.clru_model.specs.Runs as model
use Rattle.clru_model.specs.Runs.{put_with_weight, pop, pop_front, pop_back, clear, peek, contains, after, after_all, IsTaken, AreTaken}
use Rattle.clru_runs.specs.declared.call.Answer.{Answer}
use Rattle.clru_runs.specs.declared.call.Answer.TheVariants.{Weighed}
use Rattle.clru_runs.specs.declared.call.Call.{Call}
use Rattle.clru_runs.specs.declared.call.Call.TheVariants.{PutWithWeight, Peek, Contains, Pop, PopFront, PopBack, Clear}
use Rattle.clru_runs.specs.IncludedRun.{KeepsInclusion, EachKeepsInclusion}
use Rattle.clru_runs.specs.Run.{Run}
use Rattle.clru_runs.specs.Step.{Step}

module _ {K V : Type 0} where
  -- the call as `law_inclusion` has it; of the others, of which it does not speak, nothing is said
  abbrev model_call : Call K V → model.Call K V
  model_call (PutWithWeight x v) = put_with_weight x v
  model_call (Pop x) = pop x
  model_call PopFront = pop_front
  model_call PopBack = pop_back
  model_call Clear = clear
  model_call (Peek x) = peek x
  model_call (Contains x) = contains x
  model_call call = clear

module _ {K V W : Type 0} (eq : K → K → Bool) (weight : W → K → V → ℕ) where
  -- a step is that call, and capacity and scale stay
  record IsCall (call : Call K V) (old new : Cache K V W) : Type 0 where
    pub entries : new.entries ≡ after eq (weight old.scale) old.capacity (model_call call) old.entries
    pub taken : IsTaken (weight old.scale) old.capacity (model_call call)
    pub capacity : new.capacity ≡ old.capacity
    pub scale : new.scale ≡ old.scale

  call_of_step : (call : Call K V) (answer : Answer K V) (old new : Cache K V W) → KeepsInclusion call answer → Step eq weight old call answer new
      → IsCall call old new
  call_of_step (PutWithWeight x v) (Weighed (Ok out)) old new keeps step =
      let same : step.0 ≡ Ok out = cc in
      let accepts = rw same at step.2 in
      let light : weight old.scale x v < old.capacity = accepts.0 in
      record {
        entries = rw lt-ltb accepts.2.entries;
        taken = light;
        capacity = accepts.2.places.capacity;
        scale = accepts.2.places.scale;
      }
  call_of_step (Pop x) answer old new keeps step = rw step.1 (record { entries = refl; taken = tt; capacity = refl; scale = refl })
  call_of_step PopBack answer old new keeps step = rw step.1 (record { entries = refl; taken = tt; capacity = refl; scale = refl })
  call_of_step Clear answer old new keeps step = rw step.1 (record { entries = refl; taken = tt; capacity = refl; scale = refl })
  call_of_step PopFront answer old new keeps step = rw step.1 (record { entries = refl; taken = tt; capacity = refl; scale = refl })
  call_of_step (Peek x) answer old new keeps step = rw step.1 (record { entries = refl; taken = tt; capacity = refl; scale = refl })
  call_of_step (Contains x) answer old new keeps step = rw step.1 (record { entries = refl; taken = tt; capacity = refl; scale = refl })
  call_of_step call answer old new keeps step = absurd keeps

  -- a run of such calls
  record IsModelRun (k : ℕ) (s : W) (calls : List (Call K V)) (old new : Cache K V W) : Type 0 where
    pub entries : new.entries ≡ after_all eq (weight s) k (map model_call calls) old.entries
    pub taken : AreTaken (weight s) k (map model_call calls)

  model_run : (k : ℕ) (s : W) (calls : List (Call K V)) (answers : List (Answer K V)) (old new : Cache K V W) → Run (Step eq weight) old calls answers new
      → old.capacity ≡ k → old.scale ≡ s → EachKeepsInclusion calls answers → IsModelRun k s calls old new
  model_run k s [] [] old new run at_k at_s keeps = record { entries = ap (λ c. c.entries) run; taken = tt }
  model_run k s (call ∷ calls) (answer ∷ answers) old new run at_k at_s keeps =
      let step = call_of_step call answer old run.0 keeps.0 run.1 in
      let rest = model_run k s calls answers run.0 new run.2 (step.capacity ∙ at_k) (step.scale ∙ at_s) keeps.1 in
      let entries = rw (at_k, at_s) at step.entries in
      record {
        entries = rest.entries ∙ ap (after_all eq (weight s) k (map model_call calls)) entries;
        taken = (rw (at_k, at_s) at step.taken, rest.taken);
      }
  model_run k s calls answers old new run at_k at_s keeps = absurd keeps

  -- of two runs of the same calls from empty lists, the one of the lesser capacity ends with the first entries of the other
  pub lesser_run_begins : (calls : List (Call K V)) (answers others : List (Answer K V)) (lesser greater lesser_end greater_end : Cache K V W)
      → Run (Step eq weight) lesser calls answers lesser_end → Run (Step eq weight) greater calls others greater_end
      → lesser.entries ≡ [] → greater.entries ≡ [] → lesser.scale ≡ greater.scale → lesser.capacity ≤ greater.capacity
      → EachKeepsInclusion calls answers → EachKeepsInclusion calls others
      → (rest : List (K × V)) × (greater_end.entries ≡ lesser_end.entries ++ rest)
  lesser_run_begins calls answers others lesser greater lesser_end greater_end run other_run none none' same more keeps keeps' =
      let a = model_run lesser.capacity greater.scale calls answers lesser lesser_end run refl same keeps in
      let b = model_run greater.capacity greater.scale calls others greater greater_end other_run refl refl keeps' in
      let (rest, begins) = after_all_begins eq (weight greater.scale) lesser.capacity greater.capacity more (map model_call calls) a.taken in
      (rest, rw none' at b.entries ∙ begins ∙ ap (λ l. l ++ rest) (sym (rw none at a.entries)))
