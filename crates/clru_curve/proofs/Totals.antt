-- The size of distinct keys as a measure of requests.
use Rattle.std.proofs.Common.{ℕ, ◌+◌, Bool, refl, arith}
use Rattle.std.specs.Cmp.{IsEquivalence}
use Rattle.clru_model.proofs.Distinct.{total_since_since}
use Rattle.clru_model.specs.Sizes.{SameWeights, total}
use Rattle.clru_curve.proofs.Ranks.{IsMeasure}

pub total_measures : {K : Type 0} (eq : K → K → Bool) → IsEquivalence eq → (weight : K → ℕ) → SameWeights eq weight
    → IsMeasure eq (λ x. 1 + weight x) (total eq weight)
total_measures eq laws weight same = record {
  same = λ x y e. omega (arith, same x y e);
  none = refl;
  more = λ x past. refl;
  since_since = λ x y past held. omega (arith, total_since_since eq laws weight same x y past held);
}
