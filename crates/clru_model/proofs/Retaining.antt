-- What is kept of the entries where a closure was called at each.
use Rattle.std.proofs.Common.{◌≡◌, Bool, true, false, cond, List, [], ◌∷◌, sym, subst}
use Rattle.std.specs.Map.{keys_of}
use Rattle.std.specs.Map.Calls.{RetainsPairs}
use Rattle.clru_model.proofs.Sublists.{IsSublist, nothing, stays, goes}

module _ {F K V : Type 0} (step : F → K → V → Bool → V → F → Type 0) where
  -- where the calls leave the values, some entries go
  pub sublist_retained : ((f f' : F) (k : K) (v w : V) (b : Bool) → step f k v b w f' → w ≡ v) → (f : F) (es kept : List (K × V))
      → RetainsPairs step f es kept → IsSublist es kept
  sublist_retained same f [] kept h = subst (IsSublist []) (sym h) nothing
  sublist_retained same f (e ∷ es) kept h =
      let (b, w, f', rest, called, later, is) = h in
      let s = sublist_retained same f' es rest later in
      subst (IsSublist (e ∷ es)) (sym is) ((elim b as (λ b. IsSublist (e ∷ es) (cond b ((e.0, w) ∷ rest) rest)) [
        | true ↦ subst (λ v. IsSublist (e ∷ es) ((e.0, v) ∷ rest)) (sym (same f f' e.0 e.1 w b called)) (stays s)
        | false ↦ goes s
      ]))

  -- some keys go
  pub keys_retained : (f : F) (es kept : List (K × V)) → RetainsPairs step f es kept → IsSublist (keys_of es) (keys_of kept)
  keys_retained f [] kept h = subst (λ l. IsSublist [] (keys_of l)) (sym h) nothing
  keys_retained f (e ∷ es) kept h =
      let (b, w, f', rest, called, later, is) = h in
      let s = keys_retained f' es rest later in
      subst (λ l. IsSublist (e.0 ∷ keys_of es) (keys_of l)) (sym is) ((elim b as (λ b. IsSublist (e.0 ∷ keys_of es) (keys_of (cond b ((e.0, w) ∷ rest) rest))) [
        | true ↦ stays s
        | false ↦ goes s
      ]))
