-- Private: where walks by index stand. No public clause cites it.
use Rattle.std.specs.Prelude.{◌≡◌, ℕ, List, Option, Some, IfSome, true, slice_get}
use Rattle.clru_list.specs.declared.fingers.Finger.{Finger}
use Rattle.clru_list.specs.declared.fingers.Fingers.{Fingers}

-- the finger is at the place of its index
abbrev pub IsFinger : List ℕ → Option Finger → Type 0
IsFinger places finger = IfSome finger (λ f. slice_get places f.index ≡ Some f.place)

-- both are, where they were kept
pub record IsPointed (places : List ℕ) (fingers : Fingers) : Type 0 where
  pub up : fingers.kept ≡ true → IsFinger places fingers.up
  pub down : fingers.kept ≡ true → IsFinger places fingers.down
