-- Runs of puts by weight of the model. Public clauses cite them.
use Rattle.std.specs.Prelude.{◌≡◌, ℕ, Bool, List, [], ◌∷◌, Ok, ⊤}
use Rattle.clru.specs.Cache.{Cache}
use Rattle.clru_model.specs.Runs.{held_before}
use Rattle.clru_model.specs.Sizes.{SameWeights, marks_by_size}
use Rattle.clru_runs.specs.declared.call.Answer.{Answer}
use Rattle.clru_runs.specs.declared.call.Answer.TheVariants.{Weighed}
use Rattle.clru_runs.specs.declared.call.Call.{Call}
use Rattle.clru_runs.specs.declared.call.Call.TheVariants.{PutWithWeight}
use Rattle.clru_runs.specs.Run.{Run}
use Rattle.clru_runs.specs.Step.{Step}

module _ {K V : Type 0} (weight : K → ℕ) (pair_weight : K → V → ℕ) where
  -- the call is a put by weight of a pair of the key x, which weighs what its key does, and the answer is no refusal
  abbrev pub PutsBySize : K → Call K V → Answer K V → Type 0
  PutsBySize x (PutWithWeight y v) (Weighed (Ok old)) = (x ≡ y) × (pair_weight y v ≡ weight y)
  PutsBySize x call answer = ⊥

  -- the calls are such puts of the requests, in their order
  abbrev pub PutEachBySize : List K → List (Call K V) → List (Answer K V) → Type 0
  PutEachBySize [] [] [] = ⊤
  PutEachBySize (x ∷ requests) (call ∷ calls) (answer ∷ answers) =
      PutsBySize x call answer × PutEachBySize requests calls answers
  PutEachBySize requests calls answers = ⊥

module _ {K V W : Type 0} (eq : K → K → Bool) (scale_weight : W → K → V → ℕ) where
  -- the entries before each call of a run and at its end
  abbrev pub weighed_entries_of : (old : Cache K V W) (calls : List (Call K V)) (answers : List (Answer K V)) (new : Cache K V W)
      → Run (Step eq scale_weight) old calls answers new → List (List (K × V))
  weighed_entries_of old [] [] new run = old.entries ∷ []
  weighed_entries_of old (call ∷ calls) (answer ∷ answers) new run =
      old.entries ∷ weighed_entries_of run.0 calls answers new run.2
  weighed_entries_of old [] (answer ∷ answers) new run = absurd run
  weighed_entries_of old (call ∷ calls) [] new run = absurd run

module _ {K : Type 0} (eq : K → K → Bool) (V W : Type 0) where
  -- in a run from an empty cache, of such puts of some requests, a key is held before its put exactly where the request hits by size
  abbrev pub RunsHitBySize : Type 0
  RunsHitBySize = (scale_weight : W → K → V → ℕ) (weight : K → ℕ) (requests : List K) (old new : Cache K V W)
      (calls : List (Call K V)) (answers : List (Answer K V))
      → (run : Run (Step eq scale_weight) old calls answers new) → old.entries ≡ [] → SameWeights eq weight
      → PutEachBySize weight (scale_weight old.scale) requests calls answers
      → held_before eq (weighed_entries_of eq scale_weight old calls answers new run) requests
      ≡ marks_by_size eq weight old.capacity requests
