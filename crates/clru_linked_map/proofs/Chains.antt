-- Chains of places: what a step, a new place and one less leave of a walk.
use Rattle.std.proofs.Common.{◌≡◌, ℕ, ◌<◌, ◌≤◌, ◌==◌, true, List, [], ◌∷◌, ◌++◌, refl, sym, ap, ◌∙◌, arith}
use Rattle.std.proofs.lemmas.Bool.{eq-eqb}
use Rattle.clru_list.specs.Places.{count, IsRest}
use Rattle.clru_linked_map.specs.Chained.{Reaches}

-- a place stands in a list that begins with it
pub count_here : (p : ℕ) (ps : List ℕ) → 0 < count p (p ∷ ps)
count_here p ps = rw (eq-eqb p p refl) (omega arith)

-- a place stands in a list behind the first one
pub count_later : (q p : ℕ) (ps : List ℕ) → 0 < count q ps → 0 < count q (p ∷ ps)
count_later q p ps h = omega arith

-- a walk meets the place at which it stands
pub reaches_meets : (f : ℕ → ℕ) (from : ℕ) (ps : List ℕ) (to : ℕ) → Reaches f from ps to → 0 < count to (from ∷ ps)
reaches_meets f from [] to r = rw r (count_here to [])
reaches_meets f from (p ∷ ps) to r = count_later to from (p ∷ ps) (reaches_meets f p ps to r.1)

-- a walk is the same where the steps before its last place are
pub reaches_same : (f g : ℕ → ℕ) (from : ℕ) (ps : List ℕ) (to : ℕ) → Reaches f from ps to → count to (from ∷ ps) ≤ 1
    → ((q : ℕ) → 0 < count q (from ∷ ps) → (q ≡ to → ⊥) → g q ≡ f q) → Reaches g from ps to
reaches_same f g from [] to r once same = r
reaches_same f g from (p ∷ ps) to r once same =
    let met : 0 < count to (p ∷ ps) = reaches_meets f p ps to r.1 in
    let apart : from ≡ to → ⊥ = λ e. let t : (to == from) ≡ true = eq-eqb to from (sym e) in let more = rw t at once in omega arith in (
      same from (count_here from (p ∷ ps)) apart ∙ r.0,
      reaches_same f g p ps to r.1 (omega arith) (λ q h n. same q (count_later q from (p ∷ ps) h) n),
    )

-- a path is the same where its steps are
pub path_same : (f g : ℕ → ℕ) (next : ℕ) (ps : List ℕ) → IsRest f next ps → ((q : ℕ) → 0 < count q ps → g q ≡ f q) → IsRest g next ps
path_same f g next [] path same = path
path_same f g next (p ∷ ps) path same =
    (path.0, rw (same p (count_here p ps)) (path_same f g (f p) ps path.1 (λ q h. same q (count_later q p ps h))))

-- what was passed and what lies ahead are one path
pub path_join : (f : ℕ → ℕ) (from : ℕ) (ps : List ℕ) (to : ℕ) (qs : List ℕ) → Reaches f from ps to → IsRest f (f to) qs
    → IsRest f (f from) (ps ++ qs)
path_join f from [] to qs r path = rw r path
path_join f from (p ∷ ps) to qs r path = (r.0, path_join f p ps to qs r.1 path)

-- one step more
pub reaches_next : (f : ℕ → ℕ) (from : ℕ) (ps : List ℕ) (to p : ℕ) → Reaches f from ps to → f to ≡ p → Reaches f from (ps ++ p ∷ []) p
reaches_next f from [] to p r step = (ap f r ∙ step, refl)
reaches_next f from (q ∷ ps) to p r step = (r.0, reaches_next f q ps to p r.1 step)
