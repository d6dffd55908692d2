-- What a pass over requests knows after one more, and what its curve is.
use Rattle.std.proofs.Common.{◌≡◌, ℕ, ◌+◌, Bool, true, false, List, [], ◌∷◌, ◌++◌, map, reverse, refl, sym, ap, ◌∙◌, subst, arith}
use Rattle.std.specs.Prelude.{bytes_eq}
use Rattle.std.proofs.lemmas.Grind.{reverse_onto}
use Rattle.std.proofs.lemmas.List.{map-append}
use Rattle.std.proofs.lemmas.List.Sums.{sum_by-append, sum_by-cons}
use Rattle.clru_curve.specs.IdlePasses.{HasIdleMissesOf}
use Rattle.clru_curve.specs.PositionPasses.{Counted, IsPositionPass}
use Rattle.clru_curve.specs.SizedCurves.{CurveBySize}
use Rattle.clru_curve.specs.SizedIdlePasses.{IsSizedIdleCurveOf}
use Rattle.clru_curve.specs.SizedPositionPasses.{CountedBySize, IsSizedPositionPass}
use Rattle.clru_curve.proofs.SizedIdleViews.{idle_curve-view}
use Rattle.clru_curve.proofs.TimedViews.{idle_misses-view}
use Rattle.clru_model.specs.Sizes.{SameWeights}
use Rattle.clru_text.specs.Keys.{line_of, same_line}
use Rattle.clru_text.specs.TakenRequests.{HasTakenRequests, shown_of}
use Rattle.clru_text.specs.declared.lines.OwnedKey.{OwnedKey}
use Rattle.clru_text.proofs.ByteLemmas.{same_bytes}
use Rattle.clru_shares.specs.LinePasses.{HasTakenBy, weight_of_key}
use Rattle.clru_shares.specs.Sizes.{own_size, size_in, weight_behind}
use Rattle.clru_shares.specs.declared.pass.LinePass.{LinePass}
use Rattle.clru_shares.specs.declared.pass.LinePass.TheVariants.{OfKeys, OfSizes}

-- equal keys weigh the same
pub keys_weigh : {A : Type 0} → SameWeights (same_line {A = A}) weight_of_key
keys_weigh x y t = ap weight_behind (same_bytes (line_of x) (line_of y) t)

-- one more request of a key is one more of its line
pub request_more : {A P : Type 0} (Is : List (OwnedKey A × ℕ) → P → Type 0) (requests : List (List ℕ × ℕ)) (pass : P)
    (taken : HasTakenRequests Is requests pass) (request : OwnedKey A × ℕ) (next : P) → Is (request ∷ taken.past) next
    → HasTakenRequests Is (requests ++ shown_of request ∷ []) next
request_more Is requests pass taken request next one = record {
  past = request ∷ taken.past;
  shown = ap (map shown_of) (reverse_onto taken.past request []) ∙ map-append shown_of (reverse taken.past) (request ∷ [])
      ∙ ap (λ rs. rs ++ shown_of request ∷ []) taken.shown;
  taken = one;
}

module _ {A : Type 0} (limit : ℕ) (requests : List (List ℕ × ℕ)) (pass : Counted)
    (taken : HasTakenRequests {A = A} (IsPositionPass same_line limit) requests pass) where
  pub places_curve : (curve : List ℕ)
      → ((past : List (OwnedKey A × ℕ)) → IsPositionPass same_line limit past pass → HasIdleMissesOf same_line limit (reverse past) curve)
      → HasIdleMissesOf bytes_eq limit requests curve
  places_curve curve made =
      subst (λ rs. HasIdleMissesOf bytes_eq limit rs curve) taken.shown
      (λ k some. made taken.past taken.taken k some ∙ sym (idle_misses-view bytes_eq line_of k limit (reverse taken.past)))

module _ {A : Type 0} (limit : ℕ) (requests : List (List ℕ × ℕ)) (pass : CountedBySize)
    (taken : HasTakenRequests {A = A} (IsSizedPositionPass same_line weight_of_key limit) requests pass) where
  pub sizes_curve : (curve : CurveBySize)
      → ((past : List (OwnedKey A × ℕ)) → IsSizedPositionPass same_line weight_of_key limit past pass
      → IsSizedIdleCurveOf same_line weight_of_key limit (reverse past) curve)
      → IsSizedIdleCurveOf bytes_eq weight_behind limit requests curve
  sizes_curve curve made =
      subst (λ rs. IsSizedIdleCurveOf bytes_eq weight_behind limit rs curve) taken.shown
      (idle_curve-view bytes_eq weight_behind line_of limit (reverse taken.past) curve (made taken.past taken.taken))

-- a pass is one by keys or by size
module _ {A : Type 0} (limit : ℕ) (requests : List (List ℕ × ℕ)) where
  pub by_keys : (sizes : Bool) (all : LinePass A) (pass : Counted) → all ≡ OfKeys pass → HasTakenBy sizes limit requests all
      → (sizes ≡ false) × HasTakenRequests {A = A} (IsPositionPass same_line limit) requests pass
  by_keys false all pass is taken = (refl, subst (HasTakenBy false limit requests) is taken)
  by_keys true all pass is taken = absurd (subst (HasTakenBy true limit requests) is taken)

  pub by_size : (sizes : Bool) (all : LinePass A) (pass : CountedBySize) → all ≡ OfSizes pass → HasTakenBy sizes limit requests all
      → (sizes ≡ true) × HasTakenRequests {A = A} (IsSizedPositionPass same_line weight_of_key limit) requests pass
  by_size true all pass is taken = (refl, subst (HasTakenBy true limit requests) is taken)
  by_size false all pass is taken = absurd (subst (HasTakenBy false limit requests) is taken)

-- one more line adds its size
pub size_next : (sizes : Bool) (lines : List (List ℕ)) (line : List ℕ) → size_in sizes (lines ++ line ∷ []) ≡ size_in sizes lines + own_size sizes line
size_next false lines line = refl
size_next true lines line =
    omega (arith, sum_by-append (λ l. 1 + weight_behind l) lines (line ∷ []), sum_by-cons (λ l. 1 + weight_behind l) line [])

-- without a line there is none
pub none_sized : (sizes : Bool) → size_in sizes [] ≡ 0
none_sized false = refl
none_sized true = refl
