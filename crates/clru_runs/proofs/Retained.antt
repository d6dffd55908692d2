-- What the retains of a run leave.
use Rattle.std.proofs.Common.{◌≡◌, Bool, true, false, cond, List, [], ◌∷◌, filter, map, refl, ◌∙◌, subst}
use Rattle.std.specs.Map.Calls.{RetainsPairs}

-- a closure that stays as it was keeps the entries that pass, and writes to each
pub passed_and_written : {F K X : Type 0} (T : F → K → X → Bool → X → F → Type 0) (p : K × X → Bool) (g : K × X → X) (f : F)
    → ((k : K) (v : X) (b : Bool) (w : X) (f' : F) → T f k v b w f' → (b ≡ p (k, v)) × (w ≡ g (k, v)) × (f' ≡ f))
    → (es kept : List (K × X)) → RetainsPairs T f es kept → kept ≡ map (λ e. (e.0, g e)) (filter p es)
passed_and_written T p g f each [] kept h = h
passed_and_written {F} {K} {X} T p g f each (e ∷ es) kept h =
    let (b, w, f', rest, called, later, is) = h in
    let (answers, writes, stays) = each e.0 e.1 b w f' called in
    let others : rest ≡ map (λ (e : K × X). (e.0, g e)) (filter p es) =
    passed_and_written T p g f each es rest (subst (λ (s : F). RetainsPairs T s es rest) stays later) in
    is ∙ (λ i. cond {A = List (K × X)} (answers i) ((e.0, writes i) ∷ others i) (others i))
    ∙ (elim (p e) as (λ b. cond {A = List (K × X)} b ((e.0, g e) ∷ map (λ (e : K × X). (e.0, g e)) (filter p es)) (map (λ (e : K × X). (e.0, g e)) (filter p es))
    ≡ map (λ (e : K × X). (e.0, g e)) (cond b (e ∷ filter p es) (filter p es))) [ true ↦ refl | false ↦ refl ])
