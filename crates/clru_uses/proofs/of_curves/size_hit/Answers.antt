use Rattle.std.proofs.Common.{◌≡◌, ℕ, ◌<◌, ◌≤◌, Some, inl, inr, ap, arith}
use Rattle.std.proofs.lemmas.Bool.{eqb-true, cases_lt}
use Rattle.std.proofs.lemmas.Option.{same_Some}
use Rattle.std.specs.Int.NonZero.{non_zero_usize_get}
use Rattle.std.specs.Option.{IsNone}
use Rattle.clru_curve.specs.SizedCurves.{missed_size_within}
use Rattle.clru_uses.proofs.of_curves.size_hit.Goals as goal

-- there is an answer only above the greatest weight
told : (greatest k missed here : ℕ) → (k ≤ greatest → IsNone (Some missed)) → (greatest < k → Some missed ≡ Some here) → missed ≡ here
told greatest k missed here refused answer = elim (cases_lt greatest k) [
  | inl above ↦ same_Some _ _ (answer above)
  | inr within ↦ let none = refused within in cc
]

pub overflow_sub-result : goal.overflow_sub-result
overflow_sub-result g c =
    let w = λ (page : ℕ). g.W.WeightScale.weight c.args.scale page tt in
    let k = non_zero_usize_get c.args.capacity in
    let is = c.in-Ok.ensures.curve (λ x y e. ap w (eqb-true x y e)) in
    let missed = told c.in-Ok.curve.greatest_weight k c.in-Some.missed (missed_size_within c.in-Ok.curve k)
    c.in-Some.ensures.refused c.in-Some.ensures.answer in
    omega (arith, missed, is.missed_size k, is.size, c.size.ensures, c.law_bounds.ensures.size_at_most_all w k c.args.pages.now)

pub returns-in-Some : goal.returns-in-Some
returns-in-Some g c =
    let w = λ (page : ℕ). g.W.WeightScale.weight c.args.scale page tt in
    let k = non_zero_usize_get c.args.capacity in
    let is = c.in-Ok.ensures.curve (λ x y e. ap w (eqb-true x y e)) in
    let missed = told c.in-Ok.curve.greatest_weight k c.in-Some.missed (missed_size_within c.in-Ok.curve k)
    c.in-Some.ensures.refused c.in-Some.ensures.answer in
    omega (arith, missed, is.missed_size k, is.size, c.size.ensures, c.law_bounds.ensures.size_at_most_all w k c.args.pages.now)
