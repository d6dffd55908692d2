use Rattle.std.proofs.Common.{ℕ, ap, arith}
use Rattle.std.proofs.lemmas.List.Sums.{sum_by-cons}
use Rattle.std.specs.List.{sum_by}
use Rattle.std.specs.Map.Iter.{deref_pair}
use Rattle.clru_uses.proofs.walks.total.Goals as goal

pub loop-size-init : goal.loop-size-init
loop-size-init c = omega (arith, ap (sum_by {X = ℕ × ℕ} (λ e. e.1)) c.into_iter-size-iterator.ensures.into_iter_gives)

pub overflow_add-total : goal.overflow_add-total
overflow_add-total c =
    let given = ap (sum_by {X = ℕ × ℕ} (λ e. e.1)) c.in-Some.ensures.steps in
    omega (arith, c.requires, c.loop-size.invariant, given, sum_by-cons {X = ℕ × ℕ} (λ e. e.1) (deref_pair (c.in-Some.field-0-0, c.in-Some.size)) c.next.new.self)

pub loop-size-preserved : goal.loop-size-preserved
loop-size-preserved c =
    let given = ap (sum_by {X = ℕ × ℕ} (λ e. e.1)) c.in-Some.ensures.steps in
    omega (arith, c.loop-size.invariant, given, sum_by-cons {X = ℕ × ℕ} (λ e. e.1) (deref_pair (c.in-Some.field-0-0, c.in-Some.size)) c.next.new.self)

pub returns : goal.returns
returns c = omega (arith, c.loop-size.invariant, ap (sum_by {X = ℕ × ℕ} (λ e. e.1)) c.in-None.ensures.steps.0)
