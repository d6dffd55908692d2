-- What a pass over lines with times has taken under an idle limit, and its curve, by keys or by size. No public clause cites it.
use Rattle.std.specs.Prelude.{ℕ, Bool, true, false, List, bytes_eq}
use Rattle.clru_curve.specs.IdlePasses.{HasIdleMissesOf}
use Rattle.clru_curve.specs.PositionPasses.{IsPositionPass}
use Rattle.clru_curve.specs.SizedIdlePasses.{IsSizedIdleCurveOf}
use Rattle.clru_curve.specs.SizedPositionPasses.{IsSizedPositionPass}
use Rattle.clru_text.specs.Keys.{line_of, same_line}
use Rattle.clru_text.specs.TakenRequests.{HasTakenRequests}
use Rattle.clru_text.specs.declared.lines.OwnedKey.{OwnedKey}
use Rattle.clru_shares.specs.Sizes.{weight_behind}
use Rattle.clru_shares.specs.declared.curve.LineCurve.{LineCurve}
use Rattle.clru_shares.specs.declared.curve.LineCurve.TheVariants.{ByKeys, BySize}
use Rattle.clru_shares.specs.declared.pass.LinePass.{LinePass}
use Rattle.clru_shares.specs.declared.pass.LinePass.TheVariants.{OfKeys, OfSizes}

-- a key weighs what its line does
abbrev pub weight_of_key : {A : Type 0} → OwnedKey A → ℕ
weight_of_key key = weight_behind (line_of key)

module _ {A : Type 0} where
  -- the pass is one by keys or by size, and took these requests under this limit
  abbrev pub HasTakenBy : Bool → ℕ → List (List ℕ × ℕ) → LinePass A → Type 0
  HasTakenBy false limit requests (OfKeys pass) = HasTakenRequests {A = A} (IsPositionPass same_line limit) requests pass
  HasTakenBy false limit requests (OfSizes pass) = ⊥
  HasTakenBy true limit requests (OfKeys pass) = ⊥
  HasTakenBy true limit requests (OfSizes pass) = HasTakenRequests {A = A} (IsSizedPositionPass same_line weight_of_key limit) requests pass

-- the curve is one by keys or by size, and that of these requests under this limit
abbrev pub IsCurveBy : {A : Type 0} → Bool → ℕ → List (List ℕ × ℕ) → LineCurve A → Type 0
IsCurveBy false limit requests (ByKeys curve) = HasIdleMissesOf bytes_eq limit requests curve
IsCurveBy false limit requests (BySize curve) = ⊥
IsCurveBy true limit requests (ByKeys curve) = ⊥
IsCurveBy true limit requests (BySize curve) = IsSizedIdleCurveOf bytes_eq weight_behind limit requests curve
