use Rattle.std.proofs.Common.{◌<◌, ◌≤◌, ◌-◌, ℕ, List, length, get_or, ap, subst, arith}
use Rattle.std.specs.List.Sorted.{IsNonDecreasingBy}
use Rattle.clru_curve.specs.SizedCurves.{IsFalling, missed_size_within, step}
use Rattle.clru_curve.specs.declared.sized.step.Step.{Step}
use Rattle.clru_report.proofs.Falls.{span}
use Rattle.clru_report.proofs.SizedPieces.{missed_at_least, missed_at_most}
use Rattle.clru_report.proofs.sized.faithful.most_of_block.Goals as goal

pub returns : goal.returns
returns g c a b start end low high early y from below =
    let curve = c.args.curve.now in let i = c.args.index in let k : ℕ = c.args.after - 1 in
    let steps = c.as_slice.ensures.steps in
    let at = ap (λ (ss : List Step). (get_or ss k (step 0 0)).capacity) steps in
    let falling = subst (λ ss. IsFalling curve.size ss) steps c.as_slice.ensures.falling in
    let rising = subst (λ ss. IsNonDecreasingBy (λ s. s.capacity) ss) steps c.as_slice.ensures.rising in
    let inside : i ≤ length curve.steps = omega (arith, c.requires.order, c.requires.inside) in
    let before : (j : ℕ) → j < i → span curve j ≤ y = λ j less. omega (arith, early j less, from) in
    let late : (j : ℕ) → k ≤ j → j < length curve.steps → y < span curve j =
    λ j more in_steps. omega (arith, rising k j (step 0 0) more in_steps, below) in
    let most = missed_at_most curve falling i k y inside before late in
    let least = missed_at_least curve falling i k y inside before late (omega (arith, c.requires.order, c.requires.inside)) in
    c.most_between.ensures (missed_size_within curve) a b start end low (omega (arith, at, high)) y from (omega (arith, at, below))
    (omega (arith, least, c.missed_after-2.ensures)) (omega (arith, most, c.missed_after.ensures))
