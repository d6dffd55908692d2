use Rattle.std.proofs.Common.{◌≡◌, ℕ, zero, suc, ◌-◌, ◌<◌, List, length, get_or, nat_le, Some, ap, ◌∙◌, subst, arith}
use Rattle.std.proofs.lemmas.List.{get_or_default}
use Rattle.std.proofs.lemmas.List.Sums.{count_by-le-length}
use Rattle.std.specs.Int.NonZero.{non_zero_usize_get}
use Rattle.clru_curve.specs.declared.sized.step.Step.{Step}
use Rattle.clru_curve.specs.SizedCurves.{step, hits_within, size_after, missed_size_within}
use Rattle.clru_curve.proofs.sized.curve.SizedCurve.missed_size.Goals as goal

-- what the last of n steps says is missed after them
after : (size : ℕ) (steps : List Step) (n : ℕ) (d : Step) → 0 < n → n - 1 < length steps
    → (get_or steps (n - 1) d).missed_size ≡ size_after size steps n
after size steps zero d some inside = let bad : ⊥ = omega (arith, some) in elim bad [ ]
after size steps (suc k) d some inside =
    let same : suc k - 1 ≡ k = omega arith in
    ap (λ i. (get_or steps i d).missed_size) same ∙ ap (λ s. s.missed_size) (get_or_default steps k d (step 0 0) (omega (arith, inside)))

pub returns-in_default-clause-answer : goal.returns-in_default-clause-answer
returns-in_default-clause-answer g c above =
    let k = non_zero_usize_get c.args.capacity in let s = c.self.inside in
    let steps = s.steps.items in let n = c.hits_at.result in
    let hits : n ≡ hits_within k steps =
    c.hits_at.ensures ∙ ap (λ l. hits_within c.get-2.result l) c.deref.ensures.value ∙ ap (λ j. hits_within j steps) c.get-2.ensures.value in
    let some : 0 < n = omega (arith, c.in_default) in
    let inside : n - 1 < length steps = omega (arith, some, hits, count_by-le-length (λ t. nat_le t.capacity k) steps) in
    subst (λ v. Some c.index.result.now.missed_size ≡ Some (missed_size_within v k)) c.self.view_is
    (cc (c.index.ensures, after s.size steps n c.index.result.now some inside, hits))
