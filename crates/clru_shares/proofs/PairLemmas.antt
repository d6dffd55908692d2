-- What a curve by size says of misses and their size at a capacity.
use Rattle.std.proofs.Common.{◌≡◌, ℕ, zero, suc, ◌<◌, ◌≤◌, true, false, cond, Option, None, Some, IsNone, inl, inr, sym, ap, ◌∙◌, subst, arith}
use Rattle.std.specs.Prelude.{unwrap_or}
use Rattle.std.proofs.lemmas.Bool.{cases_lt, lt-ltb}
use Rattle.clru_curve.specs.SizedCurves.{CurveBySize, misses_within, missed_size_within}
use Rattle.clru_shares.specs.ShareCurves.{missed_pair}
use Rattle.clru_shares.specs.declared.curve.LineCurve.{LineCurve}
use Rattle.clru_shares.specs.declared.curve.LineCurve.TheVariants.{BySize}

pub pair_sizes : {A : Type 0} (all : LineCurve A) (curve : CurveBySize) (c : ℕ) → all ≡ BySize curve → curve.greatest_weight < c
    → Some (misses_within curve c, missed_size_within curve c) ≡ missed_pair all c
pair_sizes all curve zero is room = absurd (omega (arith, room))
pair_sizes all curve (suc c) is room =
    sym (ap (λ a. missed_pair a (suc c)) is
    ∙ ap (λ b. cond b (Some (misses_within curve (suc c), missed_size_within curve (suc c))) None) (lt-ltb curve.greatest_weight (suc c) room))

-- a number is there above the greatest weight alone
pub answered : (g c x m : ℕ) (o : Option ℕ) → (c ≤ g → IsNone o) → (g < c → o ≡ Some x) → o ≡ Some m → (g < c) × (m ≡ x)
answered g c x m o refused answer is = elim (cases_lt g c) [
  | inl low ↦ (low, ap (λ q. unwrap_or q 0) (sym is ∙ answer low))
  | inr high ↦ let no : true ≡ false = subst IsNone is (refused high) in absurd (cc)
]
