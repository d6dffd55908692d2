-- Runs of puts of the model at weight zero. Public clauses cite them.
use Rattle.std.specs.Prelude.{◌≡◌, ◌≤◌, Bool, not, List, [], ◌∷◌, Ok, ⊤}
use Rattle.std.specs.List.{count_by}
use Rattle.clru.specs.Cache.{Cache}
use Rattle.clru_model.specs.Requests.{marks}
use Rattle.clru_model.specs.Runs.{IsPutRun, held_before}
use Rattle.clru_model.specs.Schedule.{IsCompetitive, IsCompetitiveFromAnyStart}
use Rattle.clru_runs.specs.declared.call.Answer.{Answer}
use Rattle.clru_runs.specs.declared.call.Answer.TheVariants.{Stored, Weighed, Lent, Tried}
use Rattle.clru_runs.specs.declared.call.Attempt.TheVariants.{Store}
use Rattle.clru_runs.specs.declared.call.Call.TheVariants.{PutWithWeight}
use Rattle.clru_runs.specs.declared.call.PlainCall.{PlainCall}
use Rattle.clru_runs.specs.declared.call.PlainCall.TheVariants.{Put, PutOrModify, TryPutOrModify, Any}
use Rattle.clru_runs.specs.Run.{Run}
use Rattle.clru_runs.specs.Step.{PlainStep}

module _ {K V : Type 0} where
  -- the call is a put of the key x, in whichever form, and the answer is no refusal
  abbrev pub PutsKey : K → PlainCall K V → Answer K V → Type 0
  PutsKey x (Put y v) (Stored (Ok old)) = x ≡ y
  PutsKey x (PutOrModify y v) (Lent (Ok value)) = x ≡ y
  PutsKey x (TryPutOrModify y (Store v)) (Tried (Ok value)) = x ≡ y
  PutsKey x (Any (PutWithWeight y v)) (Weighed (Ok old)) = x ≡ y
  PutsKey x call answer = ⊥

  -- the calls are such puts of the requests, in their order
  abbrev pub PutEach : List K → List (PlainCall K V) → List (Answer K V) → Type 0
  PutEach [] [] [] = ⊤
  PutEach (x ∷ requests) (call ∷ calls) (answer ∷ answers) = PutsKey x call answer × PutEach requests calls answers
  PutEach requests calls answers = ⊥

module _ {K V W : Type 0} (eq : K → K → Bool) where
  -- the entries before each call of a run and at its end
  abbrev pub entries_of : (old : Cache K V W)
      (calls : List (PlainCall K V)) (answers : List (Answer K V)) (new : Cache K V W)
      → Run (PlainStep eq) old calls answers new → List (List (K × V))
  entries_of old [] [] new run = old.entries ∷ []
  entries_of old (call ∷ calls) (answer ∷ answers) new run = old.entries ∷ entries_of run.0 calls answers new run.2
  entries_of old [] (answer ∷ answers) new run = absurd run
  entries_of old (call ∷ calls) [] new run = absurd run

module _ {K : Type 0} (eq : K → K → Bool) (V W : Type 0) where
  -- of each run from an empty cache, of puts of some requests, this holds: of the entries before each put and at the end
  abbrev pub OfPutRuns : (Cache K V W → List (List (K × V)) → List K → Type 0) → Type 0
  OfPutRuns Holds = (requests : List K) (old new : Cache K V W)
      (calls : List (PlainCall K V)) (answers : List (Answer K V))
      → (run : Run (PlainStep eq) old calls answers new) → old.entries ≡ [] → 1 ≤ old.capacity
      → PutEach requests calls answers
      → Holds old (entries_of eq old calls answers new run) requests

  -- it is a run of puts as `law_requests` has it
  abbrev pub RunsArePutRuns : Type 0
  RunsArePutRuns = OfPutRuns (λ old lists requests. IsPutRun eq old.capacity lists requests)

  -- a key is held before its put exactly where the request hits
  abbrev pub RunsHit : Type 0
  RunsHit = OfPutRuns (λ old lists requests. held_before eq lists requests ≡ marks eq old.capacity requests)

  -- the puts whose key is not held before them keep the competitive bound
  abbrev pub RunsCompete : Type 0
  RunsCompete = OfPutRuns (λ old lists requests. IsCompetitive eq old.capacity requests
      (count_by not (held_before eq lists requests)))

  -- and that beside schedules that start with any keys
  abbrev pub RunsCompeteFromAnyStart : Type 0
  RunsCompeteFromAnyStart = OfPutRuns (λ old lists requests.
      IsCompetitiveFromAnyStart eq old.capacity requests (count_by not (held_before eq lists requests)))
