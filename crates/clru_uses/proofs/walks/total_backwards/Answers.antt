use Rattle.std.proofs.Common.{ℕ, [], ◌∷◌, ap, length, arith}
use Rattle.std.proofs.lemmas.List.{length-append}
use Rattle.std.proofs.lemmas.List.Sums.{sum_by-cons, sum_by-append}
use Rattle.std.specs.List.{sum_by}
use Rattle.std.specs.Map.Iter.{deref_pair}
use Rattle.clru_uses.proofs.walks.total_backwards.Goals as goal

pub loop-size-init : goal.loop-size-init
loop-size-init c = omega (arith, ap (sum_by {X = ℕ × ℕ} (λ e. e.1)) c.iter-walk.ensures)

pub overflow_add-sum : goal.overflow_add-sum
overflow_add-sum c =
    let last = deref_pair (c.in-Some.field-0-0, c.in-Some.size) in let rest = c.next_back.new.self in
    let given = ap (sum_by {X = ℕ × ℕ} (λ e. e.1)) c.in-Some.ensures.steps in
    omega (arith, c.requires, c.loop-size.invariant, given, sum_by-append {X = ℕ × ℕ} (λ e. e.1) rest (last ∷ []), sum_by-cons {X = ℕ × ℕ} (λ e. e.1) last [])

pub loop-size-smaller : goal.loop-size-smaller
loop-size-smaller c =
    let last = deref_pair (c.in-Some.field-0-0, c.in-Some.size) in
    omega (arith, ap length c.in-Some.ensures.steps, length-append c.next_back.new.self (last ∷ []))

pub loop-size-preserved : goal.loop-size-preserved
loop-size-preserved c =
    let last = deref_pair (c.in-Some.field-0-0, c.in-Some.size) in let rest = c.next_back.new.self in
    let given = ap (sum_by {X = ℕ × ℕ} (λ e. e.1)) c.in-Some.ensures.steps in
    omega (arith, c.loop-size.invariant, given, sum_by-append {X = ℕ × ℕ} (λ e. e.1) rest (last ∷ []), sum_by-cons {X = ℕ × ℕ} (λ e. e.1) last [])

pub returns : goal.returns
returns c = omega (arith, c.loop-size.invariant, ap (sum_by {X = ℕ × ℕ} (λ e. e.1)) c.in_default.ensures.steps.0)
