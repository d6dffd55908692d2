-- Objects, and what a curve of them says.
use Rattle.std.proofs.Common.{◌≡◌, ◌∙◌, ap, refl, subst, ℕ, ◌-◌, Bool, true, false, ◌&&◌, List, length, slice_index}
use Rattle.std.proofs.lemmas.Bool.{eqb-true}
use Rattle.clru_model.specs.Sizes.{SameWeights}
use Rattle.clru_curve.specs.SizedCurves.{CurveBySize, IsSizedCurveOf, misses_within, missed_size_within}
use Rattle.clru_c.specs.Arrays.{AreBelow}
use Rattle.clru_c.specs.Objects.{same_object, weight_of, AreSizedMisses}

second : (a b : Bool) → (a && b) ≡ true → b ≡ true
second true b t = t
second false true t = refl
second false false t = t

-- objects that are the same have one size
pub same_weights : SameWeights same_object weight_of
same_weights x y t = ap (λ size. size - 1) (eqb-true x.1 y.1 (second _ _ t))

-- a curve of a list is that of an equal one
pub of_objects : (given objects : List (ℕ × ℕ)) (curve : CurveBySize) → given ≡ objects
    → IsSizedCurveOf same_object weight_of given curve → IsSizedCurveOf same_object weight_of objects curve
of_objects given objects curve same is = subst (λ (l : List (ℕ × ℕ)). IsSizedCurveOf same_object weight_of l curve) same is

-- what stands in the arrays that were written from a curve
pub are_misses : (requests : List (ℕ × ℕ)) (capacities misses sizes : List ℕ) (n : ℕ) (curve : CurveBySize)
    → IsSizedCurveOf same_object weight_of requests curve
    → AreBelow (λ i m. m ≡ misses_within curve (slice_index capacities i)) misses (length misses)
    → AreBelow (λ i m. m ≡ missed_size_within curve (slice_index capacities i)) sizes (length sizes)
    → n ≡ curve.distinct_size → AreSizedMisses requests capacities misses sizes n
are_misses requests capacities misses sizes n curve is m s d = record {
  missed = λ i below. m i below ∙ is.misses (slice_index capacities i);
  missed_sizes = λ i below. s i below ∙ is.missed_size (slice_index capacities i);
  distinct_size = d ∙ is.distinct_size;
}
