-- Two runs of the same calls, of a lesser cache and of a greater one. Public clauses cite them.
use Rattle.std.specs.Prelude.{◌≡◌, ℕ, ◌≤◌, Bool, List, [], ◌∷◌, ◌++◌, Ok, ⊤}
use Rattle.clru.specs.Cache.{Cache}
use Rattle.clru_runs.specs.declared.call.Answer.{Answer}
use Rattle.clru_runs.specs.declared.call.Answer.TheVariants.{Weighed}
use Rattle.clru_runs.specs.declared.call.Call.{Call}
use Rattle.clru_runs.specs.declared.call.Call.TheVariants.{PutWithWeight, Peek, Contains, Pop, PopFront, PopBack, Clear}
use Rattle.clru_runs.specs.Run.{Run}
use Rattle.clru_runs.specs.Step.{Step}

module _ {K V : Type 0} where
  -- a put by weight that is not refused, a removal, or a read that moves no entry
  abbrev pub KeepsInclusion : Call K V → Answer K V → Type 0
  KeepsInclusion (PutWithWeight x v) (Weighed (Ok old)) = ⊤
  KeepsInclusion (Pop x) answer = ⊤
  KeepsInclusion PopFront answer = ⊤
  KeepsInclusion PopBack answer = ⊤
  KeepsInclusion Clear answer = ⊤
  KeepsInclusion (Peek x) answer = ⊤
  KeepsInclusion (Contains x) answer = ⊤
  KeepsInclusion call answer = ⊥

  -- each call with its answer
  abbrev pub EachKeepsInclusion : List (Call K V) → List (Answer K V) → Type 0
  EachKeepsInclusion [] [] = ⊤
  EachKeepsInclusion (call ∷ calls) (answer ∷ answers) = KeepsInclusion call answer × EachKeepsInclusion calls answers
  EachKeepsInclusion calls answers = ⊥

module _ {K : Type 0} (eq : K → K → Bool) (V W : Type 0) where
  -- the same calls of two empty caches of one scale: the lesser ends with the first entries of the greater
  abbrev pub LesserRunBeginsGreater : Type 0
  LesserRunBeginsGreater = (weight : W → K → V → ℕ) (calls : List (Call K V)) (answers others : List (Answer K V))
      → (lesser greater lesser_end greater_end : Cache K V W)
      → Run (Step eq weight) lesser calls answers lesser_end → Run (Step eq weight) greater calls others greater_end
      → lesser.entries ≡ [] → greater.entries ≡ [] → lesser.scale ≡ greater.scale → lesser.capacity ≤ greater.capacity
      → EachKeepsInclusion calls answers → EachKeepsInclusion calls others
      → (rest : List (K × V)) × (greater_end.entries ≡ lesser_end.entries ++ rest)
