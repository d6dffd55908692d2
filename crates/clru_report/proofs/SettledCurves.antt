-- What is true of the curve of any lines: from which capacity on it answers, and from which on nothing changes.
use Rattle.std.proofs.Common.{ℕ, ◌≤◌, List, reverse, sym, ap, ◌∙◌, arith}
use Rattle.std.specs.Prelude.{bytes_eq}
use Rattle.clru_curve.proofs.GreatestWeights.{greatest_below}
use Rattle.clru_curve.specs.SizedCurves.{CurveBySize, IsSizedCurveOf}
use Rattle.clru_model.proofs.Spans.{room_misses_first}
use Rattle.clru_model.specs.Sizes.{SameWeights}
use Rattle.clru_report.specs.Passes.{IsSettled}
use Rattle.clru_text.specs.Sizes.{weight_of_line}
use Rattle.clru_text.proofs.ByteLemmas.{bytes_laws, same_bytes}

pub same_weights : SameWeights bytes_eq weight_of_line
same_weights x y t = ap weight_of_line (same_bytes x y t)

pub settled_curve : (lines : List (List ℕ)) (curve : CurveBySize) → IsSizedCurveOf bytes_eq weight_of_line lines curve → IsSettled curve
settled_curve lines curve is =
    let below = greatest_below bytes_eq bytes_laws weight_of_line same_weights (reverse lines) in
    let beyond = λ (c : ℕ) (more : curve.distinct_size ≤ c). is.misses c
    ∙ (room_misses_first bytes_eq bytes_laws weight_of_line same_weights c lines (omega (arith, more, is.distinct_size))).0 in
    record {
      greatest = λ some. omega (arith, some, below, is.distinct_size, is.greatest_weight);
      none = λ empty. omega (arith, empty, below, is.distinct_size, is.greatest_weight);
      settled = λ c more. beyond c more ∙ sym (beyond curve.distinct_size (omega arith));
    }
