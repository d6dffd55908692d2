-- Which lines are paths.
use Rattle.std.proofs.Common.{◌≡◌, Bool, true, false, refl, List, ℕ}
use Rattle.std.specs.Str.{IsUtf8, is_utf8}
use Rattle.std.proofs.lemmas.Str.{IsUtf8-from_is_utf8}

false_unless : (b : Bool) → (b ≡ true → ⊥) → b ≡ false
false_unless true unless = absurd (unless refl)
false_unless false unless = refl

-- of a line that is no UTF-8
pub no_path : (line : List ℕ) → ¬ (IsUtf8 line) → is_utf8 line ≡ false
no_path line none = false_unless (is_utf8 line) (λ is. none (IsUtf8-from_is_utf8 line is))
