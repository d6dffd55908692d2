-- The pairs along which a closure is called, place by place: what it was called at, and what is still to come.
use Rattle.std.proofs.Common.{◌≡◌, ℕ, ◌+◌, ◌<◌, Bool, true, false, cond, Option, Some, None, List, [], ◌∷◌, map, length, refl, sym, ap, ◌∙◌, subst, arith, inl, inr}
use Rattle.std.proofs.lemmas.Bool.{cases_eq, eq-eqb, ne_eqb}
use Rattle.std.proofs.lemmas.List.{map-append}
use Rattle.std.specs.List.{FoldsTo}
use Rattle.std.specs.Map.Calls.{SomeCallAtPair, CallableOnEachPair, RetainsPairs}
use Rattle.clru_model.specs.Entries.{weight_of}
use Rattle.clru_model.proofs.Weights.{weight_of-cons}
use Rattle.clru_list.specs.PlaceList.{PlaceList, with_entries, item_at, without, with_at, first_place, place_after, IsValid}
use Rattle.clru_list.proofs.Retaining.{IsRetaining, from_place, some_injective, starts, ends, head, item_here, takes_here, goes_on, fewer}
use Rattle.clru_linked_map.specs.LinkedMap.{pairs_of}
use Rattle.clru_linked_map.proofs.Valid.{valid-with_at, valid-without}

-- a call may be made at a place and its pair
abbrev pub takes_at : {F K V : Type 0} → (F → K → V → Type 0) → F → ℕ → K × V → Type 0
takes_at takes f p e = takes f e.0 e.1

module _ {F K V : Type 0} (step : F → K → V → Bool → V → F → Type 0) where
  -- a call at a place and its pair: the key stays
  abbrev pub step_at : F → ℕ → K × V → Bool → K × V → F → Type 0
  step_at f p e b d f' = (d.0 ≡ e.0) × step f e.0 e.1 b d.1 f'

  abbrev pairs_in : List (ℕ × (K × V)) → List (K × V)
  pairs_in es = map (λ e. e.1) es

  folds_along : (es : List (ℕ × (K × V))) (f f' : F) → FoldsTo (SomeCallAtPair step_at) f es f' → FoldsTo (SomeCallAtPair step) f (pairs_in es) f'
  folds_along [] f f' folds = folds
  folds_along (e ∷ es) f f' folds = let (g, (b, w, (key, call)), later) = folds in (g, (b, w.1, call), folds_along es g f' later)

  -- the closure may be called at the places where it may be called at the pairs
  pub callable_at : (takes : F → K → V → Type 0) (f : F) (es : List (ℕ × (K × V))) → CallableOnEachPair step takes f (pairs_in es)
      → CallableOnEachPair step_at (takes_at takes) f es
  callable_at takes f es c = record {
    at = λ before after f' p e is folds. c.at (pairs_in before) (pairs_in after) f' e.0 e.1
        (ap (λ l. pairs_in l) is ∙ map-append (λ (e : ℕ × (K × V)). e.1) before ((p, e) ∷ after)) (folds_along before f f' folds);
  }

  kept_pairs : (b : Bool) (p : ℕ) (k : K) (w : K × V) (rest : List (ℕ × (K × V))) → w.0 ≡ k
      → pairs_in (cond b ((p, w) ∷ rest) rest) ≡ cond b ((k, w.1) ∷ pairs_in rest) (pairs_in rest)
  kept_pairs true p k w rest same = λ i. (same i, w.1) ∷ pairs_in rest
  kept_pairs false p k w rest same = refl

  -- the pairs that are kept at their places are the pairs that are kept
  pub retained_at : (f : F) (es kept : List (ℕ × (K × V))) → RetainsPairs step_at f es kept
      → RetainsPairs step f (pairs_in es) (pairs_in kept)
  retained_at f [] kept h = ap (λ l. pairs_in l) h
  retained_at f (e ∷ es) kept h =
      let (b, w, f', rest, (key, call), later, is) = h in
      (b, w.1, f', pairs_in rest, call, retained_at f' es rest later, ap (λ l. pairs_in l) is ∙ kept_pairs b e.0 e.1.0 w rest key)

module _ {F K V : Type 0} (step : F → K → V → Bool → V → F → Type 0) (takes : F → K → V → Type 0) where
  -- the closure was called at the pairs before the place at, and is still to be called at the others
  abbrev pub IsSifting : F → PlaceList (K × V) → F → PlaceList (K × V) → Option ℕ → Type 0
  IsSifting first old f l at = IsRetaining (step_at step) (takes_at takes) first old f l at

  pub sifting_starts : (f : F) (l : PlaceList (K × V)) (at : Option ℕ) → at ≡ first_place l.entries → IsValid l
      → CallableOnEachPair step takes f (pairs_of l.entries) → IsSifting f l f l at
  sifting_starts f l at stands valid callable =
      starts (step_at step) (takes_at takes) f l at stands valid (callable_at step takes f l.entries callable)

  module _ (first : F) (old : PlaceList (K × V)) (f : F) (l : PlaceList (K × V)) (at : Option ℕ) (s : IsSifting first old f l at) where
    pub sifting_ends : ((p : ℕ) → at ≡ Some p → ⊥) → RetainsPairs step first (pairs_of old.entries) (pairs_of l.entries)
    sifting_ends none =
        retained_at step first old.entries l.entries (ends (step_at step) (takes_at takes) first old f l at s none)

    -- an item stands at the place
    pub sifting_some : (p : ℕ) → at ≡ Some p → item_at p l.entries ≡ None → ⊥
    sifting_some p here none = let no = sym none ∙ item_here (step_at step) (takes_at takes) first old f l at s p here in cc

    module _ (p : ℕ) (here : at ≡ Some p) (i : K × V) (held : item_at p l.entries ≡ Some i) where
      pair_here : i ≡ (head (step_at step) (takes_at takes) first old f l at s p here).value
      pair_here = some_injective (sym held ∙ item_here (step_at step) (takes_at takes) first old f l at s p here)

      -- the closure may be called at the pair that stands there
      pub sifting_takes : takes f i.0 i.1
      sifting_takes = subst (λ (e : K × V). takes f e.0 e.1) (sym pair_here) (takes_here (step_at step) (takes_at takes) first old f l at s p here)

      module _ (valid : IsValid l) (b : Bool) (v : V) (mid new : PlaceList (K × V))
          (written : mid ≡ with_entries l (with_at p (i.0, v) l.entries))
          (taken : new ≡ with_entries mid (cond b mid.entries (without p mid.entries))) (next : Option ℕ)
          (after : next ≡ place_after p l.entries) where
        valid_mid : IsValid mid
        valid_mid = subst IsValid (sym written) (valid-with_at l valid p (i.0, v) i held)

        valid_by : (b : Bool) → new ≡ with_entries mid (cond b mid.entries (without p mid.entries)) → IsValid new
        valid_by true same = subst IsValid (sym same) valid_mid
        valid_by false same = subst IsValid (sym same) (valid-without mid valid_mid p)

        -- one more call, which answered b and left v there
        pub sifting_goes_on : (g : F) → step f i.0 i.1 b v g → IsRetaining (step_at step) (takes_at takes) first old g new next
        sifting_goes_on g called =
            goes_on (step_at step) (takes_at takes) first old f l at s p here b (i.0, v) g mid new next
            (subst (λ (e : K × V). (i.0 ≡ e.0) × step f e.0 e.1 b v g) pair_here (refl, called)) written taken (valid_by b taken) after

        -- one pair less is left
        pub sifting_fewer : length (from_place next new.entries) < length (from_place at l.entries)
        sifting_fewer =
            fewer (step_at step) (takes_at takes) first old f l at s p here b (i.0, v) mid new next written taken (valid_by b taken) after

-- the pair that is taken out takes its weight with it
pub weight_of-taken : {K V : Type 0} (weight : K → V → ℕ) (p : ℕ) (es : List (ℕ × (K × V))) (i : K × V) → item_at p es ≡ Some i
    → weight_of weight (pairs_of (without p es)) + weight i.0 i.1 ≡ weight_of weight (pairs_of es)
weight_of-taken weight p [] i held = cc
weight_of-taken {K} {V} weight p (e ∷ es) i held = elim (cases_eq p e.0) [
  | inl here ↦
      let is : e.1 ≡ i = let both : Some e.1 ≡ Some i = rw (eq-eqb p e.0 here) at held in cc in
      rw (eq-eqb p e.0 here) (omega (arith, weight_of-cons weight e.1 (pairs_of es), ap (λ (j : K × V). weight j.0 j.1) is))
  | inr there ↦
      let later = weight_of-taken weight p es i (rw (ne_eqb p e.0 there) at held) in
      rw (ne_eqb p e.0 there) (omega (arith, later, weight_of-cons weight e.1 (pairs_of es), weight_of-cons weight e.1 (pairs_of (without p es))))
]

-- and a value that is written for another of its weight changes none
pub weight_of-written : {K V : Type 0} (weight : K → V → ℕ) (p : ℕ) (v : V) (es : List (ℕ × (K × V))) (i : K × V) → item_at p es ≡ Some i
    → weight i.0 v ≡ weight i.0 i.1
    → weight_of weight (pairs_of (with_at p ((i.0, v)) es)) ≡ weight_of weight (pairs_of es)
weight_of-written weight p v [] i held same = refl
weight_of-written {K} {V} weight p v (e ∷ es) i held same =
    let before = weight_of-cons weight e.1 (pairs_of es) in elim (cases_eq p e.0) [
      | inl here ↦
          let is : e.1 ≡ i = let both : Some e.1 ≡ Some i = rw (eq-eqb p e.0 here) at held in cc in
          rw (eq-eqb p e.0 here)
          (omega (arith, same, before, weight_of-cons weight (i.0, v) (pairs_of es), ap (λ (j : K × V). weight j.0 j.1) is))
      | inr there ↦
          let later = weight_of-written weight p v es i (rw (ne_eqb p e.0 there) at held) same in
          let w : K × V = (i.0, v) in
          rw (ne_eqb p e.0 there) (omega (arith, later, before, weight_of-cons weight e.1 (pairs_of (with_at p w es))))
    ]
