-- What a pass over lines by size knows of their weights, and what its curve is.
use Rattle.std.proofs.Common.{List, reverse, subst}
use Rattle.std.specs.Map.{keys_of}
use Rattle.clru_curve.specs.SizedCurves.{CurveBySize, IsSizedCurveOf}
use Rattle.clru_model.specs.Sizes.{SameWeights}
use Rattle.clru_text.specs.Keys.{line_of, same_line}
use Rattle.clru_text.specs.declared.lines.OwnedKey.{OwnedKey}
use Rattle.clru_curve.specs.Seen.{timeless}
use Rattle.clru_report.specs.Passes.{weight_of_key}
use Rattle.clru_curve.proofs.Timeless.{keys_timeless}
use Rattle.clru_report.proofs.SettledCurves.{same_weights}

module _ {A : Type 0} where
  pub same_key_weights : SameWeights same_line (weight_of_key {A = A})
  same_key_weights x y t = same_weights (line_of x) (line_of y) t

  -- the curve of requests without times is that of their keys
  pub curve_of_keys : (past : List (OwnedKey A)) (curve : CurveBySize)
      → IsSizedCurveOf same_line weight_of_key (reverse (keys_of (timeless past))) curve → IsSizedCurveOf same_line weight_of_key (reverse past) curve
  curve_of_keys past curve of = subst (λ ks. IsSizedCurveOf same_line weight_of_key (reverse ks) curve) (keys_timeless past) of
