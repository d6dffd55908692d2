use Rattle.std.proofs.Common.{◌≡◌, ◌⊎◌, ℕ, zero, suc, ◌<◌, ◌≤◌, List, [], ◌∷◌, get_or, Option, Some, None, inl, inr, refl, sym, ap, ◌∙◌, subst, cond, arith}
use Rattle.std.proofs.lemmas.Bool.Decides.{nat_tests}
use Rattle.std.proofs.lemmas.Option.{same_Some}
use Rattle.std.proofs.lemmas.Result.{IfOk-weaker}
use Rattle.std.specs.Int.NonZero.{non_zero_usize_get}
use Rattle.std.specs.List.{slice_get}
use Rattle.std.specs.Prelude.{IsSome, nat_lt, sum}
use Rattle.clru_curve.specs.SizedCurves.{CurveBySize}
use Rattle.clru_model.proofs.Cases.{split}
use Rattle.clru_curve.specs.Classes.{missed_size_above}
use Rattle.clru_curve.specs.Splits.{AreParts, IsBestSplit, IsPart}
use Rattle.clru_uses.proofs.splits.bytes_for_each.Goals as goal

abbrev all : CurveBySize → ℕ
all c = c.size

-- a part has a number above the greatest weight alone
above : (g k : ℕ) (o : Option ℕ) → IsSome (cond (nat_lt g k) o None) → g < k
above g k o has = split (nat_lt g k) (λ t. grind (arith, nat_tests, t)) (λ f. let none = rw f at has in cc)

part_of : (step : ℕ) (c : CurveBySize) (k : ℕ) → IsPart all missed_size_above step c k → (k ≡ 0) ⊎ (c.greatest_weight < k)
part_of step c zero part = inl refl
part_of step c (suc k) part = inr (above c.greatest_weight (suc k) _ part.has_number)

each : (step : ℕ) (cs : List CurveBySize) (ks : List ℕ) → AreParts all missed_size_above step cs ks → (i : ℕ) (c : CurveBySize)
    → slice_get cs i ≡ Some c → (get_or ks i 0 ≡ 0) ⊎ (c.greatest_weight < get_or ks i 0)
each step [] ks parts i c at = cc
each step (d ∷ cs) [] parts i c at = absurd parts
each step (d ∷ cs) (k ∷ ks) parts zero c at = subst (λ e. (k ≡ 0) ⊎ (e.greatest_weight < k)) (same_Some d c at) (part_of step d k parts.0)
each step (d ∷ cs) (k ∷ ks) parts (suc i) c at = each step cs ks parts.1 i c at

pub returns-clause-all_or_none : goal.returns-clause-all_or_none
returns-clause-all_or_none c =
    let step = non_zero_usize_get c.args.step in
    IfOk-weaker c.split.result (λ bytes. IsBestSplit all missed_size_above step c.args.budget c.args.curves.now bytes.items)
    (λ bytes. (i : ℕ) (curve : CurveBySize) → slice_get c.args.curves.now i ≡ Some curve
    → (get_or bytes.items i 0 ≡ 0) ⊎ (curve.greatest_weight < get_or bytes.items i 0))
    (λ bytes best. each step c.args.curves.now bytes.items best.split.parts) c.split.ensures.best
