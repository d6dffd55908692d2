-- The two cases of a test.
use Rattle.std.proofs.Common.{◌≡◌, Bool, true, false, refl}

pub split : {G : Type 0} (b : Bool) → (b ≡ true → G) → (b ≡ false → G) → G
split true at_true at_false = at_true refl
split false at_true at_false = at_false refl
