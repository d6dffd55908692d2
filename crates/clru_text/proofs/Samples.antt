-- Which lines a sample keeps.
use Rattle.std.proofs.Common.{◌≡◌, ℕ, true, false, cond, List, [], ◌∷◌, ◌++◌, append-nil, refl, ap, ◌∙◌}
use Rattle.std.specs.Prelude.{◌==◌}
use Rattle.std.proofs.Math.Nat.{mod-one}
use Rattle.std.proofs.lemmas.List.Elements.{filter-append}
use Rattle.clru_text.specs.Samples.{fnv, is_kept, kept_of}

-- one more line is kept, or is not
module _ (n : ℕ) (lines : List (List ℕ)) (line : List ℕ) where
  pub kept_one : is_kept n line ≡ true → kept_of n (lines ++ line ∷ []) ≡ kept_of n lines ++ line ∷ []
  kept_one is = filter-append (is_kept n) lines (line ∷ []) ∙ ap (λ b. kept_of n lines ++ cond b (line ∷ []) []) is

  pub kept_none : is_kept n line ≡ false → kept_of n (lines ++ line ∷ []) ≡ kept_of n lines
  kept_none is =
      filter-append (is_kept n) lines (line ∷ []) ∙ ap (λ b. kept_of n lines ++ cond b (line ∷ []) []) is
      ∙ append-nil (kept_of n lines)

-- one in one keeps each
pub each_kept : (line : List ℕ) → is_kept 1 line ≡ true
each_kept line = ap (λ r. r == 0) (mod-one (fnv line))

pub all_kept : (lines : List (List ℕ)) → kept_of 1 lines ≡ lines
all_kept [] = refl
all_kept (line ∷ lines) = rw (each_kept line) (ap (λ ls. line ∷ ls) (all_kept lines))
