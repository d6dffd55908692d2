use Rattle.std.proofs.Common.{◌≡◌, ◌+◌, ◌-◌, ◌++◌, [], ◌∷◌, true, get_or, length, map, sym, ap, ◌∙◌, arith}
use Rattle.std.proofs.lemmas.List.{get_or_default}
use Rattle.std.specs.Int.NonZero.{non_zero_usize_get}
use Rattle.clru_curve.specs.Curves.{misses_at}
use Rattle.clru_report.specs.Ratios.{is_enough}
use Rattle.clru_report.proofs.RatioLemmas.{first_passes}
use Rattle.clru_report.proofs.ratio.least_by_keys.Goals as goal

pub returns-then-is_enough : goal.returns-then-is_enough
returns-then-is_enough g c =
    let curve = c.args.curve.now in let n = length curve in let i = c.loop-index.index in
    let enough = is_enough c.args.ratio.number c.args.whole in
    let last : i + 1 - 1 ≡ i = omega arith in
    let at : misses_at curve (i + 1) ≡ get_or curve i 0 =
    ap (λ k. get_or curve k (get_or curve (n - 1) 0)) last ∙ get_or_default curve i (get_or curve (n - 1) 0) 0 c.loop-index-test.true in
    let here : enough (misses_at curve n) (misses_at curve (i + 1)) ≡ true =
    ap (λ f. enough f (misses_at curve (i + 1))) (sym c.misses_by_keys-fewest.ensures) ∙ ap (enough c.misses_by_keys-fewest.result) at
    ∙ sym c.is_enough.ensures ∙ c.if-is_enough.true in
    c.in_ok-push_capacity.ensures ∙ ap (λ xs. map non_zero_usize_get xs ++ (i + 1) ∷ []) c.loop-index.invariant.0
    ∙ sym (first_passes (λ k. enough (misses_at curve n) (misses_at curve k)) 1 (n + 1 - 1) (i + 1) (omega arith)
    (omega (arith, c.loop-index-test.true)) here (λ k low high. c.loop-index.invariant.1 k low (omega (arith, high))))
