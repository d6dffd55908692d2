-- A closure that passes each of its calls on to another one: what it may be asked, and what a retain by it tells of the other.
use Rattle.std.proofs.Common.{Bool, List, [], ◌∷◌, ap}
use Rattle.std.specs.List.{FoldsTo}
use Rattle.std.specs.Map.Calls.{SomeCallAtPair, CallableOnEachPair, RetainsPairs}

module _ {F G K V : Type 0} (inner : F → K → V → Bool → V → F → Type 0) (outer : G → K → V → Bool → V → G → Type 0) (held : G → F)
    (passes : (g : G) (k : K) (v : V) (b : Bool) (w : V) (g' : G) → outer g k v b w g' → inner (held g) k v b w (held g')) where
  passed_along : (es : List (K × V)) (g g' : G) → FoldsTo (SomeCallAtPair outer) g es g' → FoldsTo (SomeCallAtPair inner) (held g) es (held g')
  passed_along [] g g' folds = ap held folds
  passed_along (e ∷ es) g g' folds = let (h, (b, w, call), later) = folds in (held h, (b, w, passes g e.0 e.1 b w h call), passed_along es h g' later)

  pub callable_passed : (may : F → K → V → Type 0) (asks : G → K → V → Type 0) → ((g : G) (k : K) (v : V) → may (held g) k v → asks g k v)
      → (g : G) (es : List (K × V)) → CallableOnEachPair inner may (held g) es → CallableOnEachPair outer asks g es
  callable_passed may asks so g es c = record {
    at = λ before after g' k v is folds. so g' k v (c.at before after (held g') k v is (passed_along before g g' folds));
  }

  pub retained_passed : (g : G) (es kept : List (K × V)) → RetainsPairs outer g es kept → RetainsPairs inner (held g) es kept
  retained_passed g [] kept h = h
  retained_passed g (e ∷ es) kept h =
      let (b, w, g', rest, call, later, is) = h in (b, w, held g', rest, passes g e.0 e.1 b w g' call, retained_passed g' es rest later, is)
