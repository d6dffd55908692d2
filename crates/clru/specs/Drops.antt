-- Calls that hand dropped pairs to a closure. Public clauses cite them.
use Rattle.std.specs.Prelude.{◌≡◌, List, ◌∷◌, ◌++◌}
use Rattle.std.specs.Fn.{Mut, Called}
use Rattle.std.specs.List.{FoldsTo}

module _ {F K V : Type 0} (g : Mut F (K × (V × Unit {0})) (Unit {0})) where
  -- a call at the pair e may leave f as f'
  abbrev pub TakesOver : F → K × V → F → Type 0
  TakesOver f e f' = Called g f (e.0, (e.1, tt)) tt f'

  -- calls at each of the pairs in turn, each from the state that the one before left, may leave f as f'
  abbrev pub HandsOutTo : F → List (K × V) → F → Type 0
  HandsOutTo f es f' = FoldsTo TakesOver f es f'

  -- f may be called at each of the pairs in turn
  pub record TakesEach (f : F) (es : List (K × V)) : Type 0 where
    pub at : (before after : List (K × V)) (f' : F) (e : K × V)
        → es ≡ before ++ e ∷ after → HandsOutTo f before f' → g.pre f' (e.0, (e.1, tt))
