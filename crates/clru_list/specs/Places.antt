-- Places as numbers, and walks along links, from each place to the next. No public clause cites this file.
use Rattle.std.specs.Prelude.{◌≡◌, ℕ, ◌+◌, ◌-◌, ◌*◌, ◌==◌, if◌then◌else◌, List, [], ◌∷◌}

-- the number that no place has: it ends each walk, and stands for its start
abbrev pub nowhere : ℕ
nowhere = 18446744073709551615

-- what a link leads to: it is kept as one more than the place, in two halves of 4 bytes or whole as the lower one, and as 0
-- where it leads nowhere
unfoldable pub place_by : ℕ → ℕ → ℕ
place_by lower upper = if lower + upper * 4294967296 == 0 then nowhere else lower + upper * 4294967296 - 1

-- the lower halves alone name the places below
abbrev pub narrow : ℕ
narrow = 4294967295

-- the function with another value at one place
abbrev pub put : {X : Type 0} → (ℕ → X) → ℕ → X → ℕ → X
put f at v p = if at == p then v else f p

-- how often a place stands in a list
abbrev pub count : ℕ → List ℕ → ℕ
count p [] = 0
count p (q ∷ qs) = (if p == q then 1 else 0) + count p qs

-- a walk that comes to the place next passes those of the list, and then ends
abbrev pub IsRest : (ℕ → ℕ) → ℕ → List ℕ → Type 0
IsRest f next [] = next ≡ nowhere
IsRest f next (p ∷ ps) = (next ≡ p) × IsRest f (f p) ps
