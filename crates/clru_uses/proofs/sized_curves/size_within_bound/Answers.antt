use Rattle.std.proofs.Common.{◌≡◌, ℕ, ◌<◌, ◌≤◌, Option, Some, None, inl, inr}
use Rattle.std.proofs.lemmas.Bool.{cases_lt}
use Rattle.std.proofs.lemmas.Option.{same_Some}
use Rattle.std.specs.Int.NonZero.{non_zero_usize_get}
use Rattle.std.specs.Option.{IfSome, IsNone}
use Rattle.clru_curve.specs.SizedCurves.{missed_size_within}
use Rattle.clru_model.specs.SizedSchedule.{IsCompetitiveBySize, IsCompetitiveBySizeFromAnyStart}
use Rattle.clru_uses.proofs.sized_curves.size_within_bound.Goals as goal

-- where there is an answer, it is the one above the greatest weight
answered : (Q : ℕ → Type 0) (greatest k m : ℕ) (o : Option ℕ) → (k ≤ greatest → IsNone o) → (greatest < k → o ≡ Some m) → Q m → IfSome o Q
answered Q greatest k m None refused answer q = tt
answered Q greatest k m (Some n) refused answer q =
    let is : n ≡ m = elim (cases_lt greatest k) [
      | inl above ↦ same_Some n m (answer above)
      | inr within ↦ let none = refused within in cc
    ] in
    rw is q

pub returns-clause-bound : goal.returns-clause-bound
returns-clause-bound g c weight requests same is =
    let curve = c.args.curve.now in
    let k = non_zero_usize_get c.args.capacity in
    answered (IsCompetitiveBySize g.K.PartialEq.eq weight k requests) curve.greatest_weight k (missed_size_within curve k) c.missed_size.result
    c.missed_size.ensures.refused c.missed_size.ensures.answer
    (rw (is.missed_size k) (c.law_size_bound.ensures.bound weight k requests same))

pub returns-clause-bound_any_start : goal.returns-clause-bound_any_start
returns-clause-bound_any_start g c weight requests same is =
    let curve = c.args.curve.now in
    let k = non_zero_usize_get c.args.capacity in
    answered (IsCompetitiveBySizeFromAnyStart g.K.PartialEq.eq weight k requests) curve.greatest_weight k (missed_size_within curve k) c.missed_size.result
    c.missed_size.ensures.refused c.missed_size.ensures.answer
    (rw (is.missed_size k) (c.law_size_bound.ensures.bound_any_start weight k requests same))
