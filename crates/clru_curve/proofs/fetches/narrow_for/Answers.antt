use Rattle.std.proofs.Common.{◌≡◌, ◌-◌, ◌≤◌, get_or, inl, inr, subst, arith}
use Rattle.std.proofs.lemmas.Bool.{cases_lt}
use Rattle.clru_curve.proofs.fetches.narrow_for.Goals as goal

pub loop-index-init : goal.loop-index-init
loop-index-init c i j low high =
    let same : i ≡ j = omega (arith, low, high) in subst (λ k. get_or c.args.capacities.now i 0 ≤ get_or c.args.capacities.now k 0) same (omega arith)

pub loop-index-preserved : goal.loop-index-preserved
loop-index-preserved c i j low high =
    let cs = c.args.capacities.now in let n = c.loop-index.index in
    elim (cases_lt j n) [
      | inl lt ↦ c.loop-index.invariant i j low lt
      | inr ge ↦ let last : n ≡ j = omega (arith, ge, high) in
          subst (λ k. get_or cs i 0 ≤ get_or cs k 0) last (elim (cases_lt i n) [
            | inl lt ↦ omega (arith, c.loop-index.invariant i (n - 1) (omega (arith, lt)) (omega (arith, lt)))
            | inr high ↦ let same : n ≡ i = omega (arith, low, last, high) in subst (λ k. get_or cs k 0 ≤ get_or cs n 0) same (omega arith)
          ])
    ]
