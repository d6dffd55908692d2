-- A load that fetches a stale value again. Public clauses cite it.
use Rattle.std.specs.Prelude.{ℕ, Bool, true, false, ◌⊎◌, Option, Some, None, Result, Ok}
use Rattle.std.specs.Borrow.{Bor}
use Rattle.std.specs.Fn.{Mut}
use Rattle.std.specs.Map.{lookup}
use Rattle.clru_linked_map.specs.Retains.{CalledAtShownPair}
use Rattle.clru_through.specs.Steps.{Hits, Fetches}
use Rattle.clru_through.specs.Store.{Store}
use Rattle.clru_through.specs.declared.answer.Loaded.{Loaded}

-- a call of f at a `&` to x and a `&` to v may return b
abbrev pub Says : {F K V : Type 0} → Mut F (Bor K × (Bor V × Unit {0})) Bool → F → K → V → Bool → Type 0
Says {F = F} g f x v b = (f' : F) × CalledAtShownPair g f x v b v f'

module _ {K V W R E : Type 0} (eq : K → K → Bool) (weight : K → V → ℕ) (fetches : R → K → Result V E → R → Type 0)
    (says : V → Bool → Type 0) (old : Store K V W R) (x : K) (result : Result (Loaded V) E) (new : Store K V W R) where
  -- a held value that is not said to be stale is a hit, and else there is one fetch
  abbrev pub LoadsUnlessBy : Option V → Type 0
  LoadsUnlessBy (Some v) = (says v false × Hits eq weight fetches old x result new)
      ⊎ (says v true × Fetches eq weight fetches old x result new)
  LoadsUnlessBy None = Fetches eq weight fetches old x result new

  -- a load of x, unless what is held is said to be stale
  abbrev pub LoadsUnless : Type 0
  LoadsUnless = LoadsUnlessBy (lookup (eq x) old.cache.entries)

-- v was held and is not said to be stale, or it is what one fetch of x gave
abbrev pub IsFresh : {K V R E : Type 0} → (R → K → Result V E → R → Type 0) → (V → Bool → Type 0) → R → K → R → V → Type 0
IsFresh fetches says old x new v = says v false ⊎ fetches old x (Ok v) new
