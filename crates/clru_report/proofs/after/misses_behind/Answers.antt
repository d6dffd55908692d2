use Rattle.std.proofs.Common.{◌≡◌, ◌+◌, ◌-◌, get_or, length, ◌++◌, ◌∷◌, [], map, sym, ap, ◌∙◌, zero-add, arith}
use Rattle.std.specs.Int.NonZero.{non_zero_usize_get}
use Rattle.std.specs.List.{range_with_len}
use Rattle.std.proofs.lemmas.List.FromFn.{map-range_with_len_more}
use Rattle.std.proofs.lemmas.List.{get_or_default}
use Rattle.clru_curve.specs.Curves.{misses_at}
use Rattle.clru_report.proofs.AfterLemmas.{left_at}
use Rattle.clru_report.proofs.after.misses_behind.Goals as goal

pub loop-index-preserved : goal.loop-index-preserved
loop-index-preserved g c =
    let i = c.loop-index.index in let f = left_at c.args.curve.now c.args.head.now in
    let all = map f (range_with_len 0 i) in
    let curve = c.args.curve.now in let head = c.args.head.now in
    let capacity : non_zero_usize_get c.saturating_add-capacity.result ≡ i + 1 =
    omega (arith, c.saturating_add-capacity.ensures, c.loop-index-test.true) in
    let back : i + 1 - 1 ≡ i = omega arith in
    let here : misses_at curve (i + 1) ≡ get_or curve i 0 =
    ap (λ k. get_or curve k (get_or curve (length curve - 1) 0)) back ∙ get_or_default curve i _ 0 c.loop-index-test.true in
    let at : c.saturating_sub.result ≡ f i =
    c.saturating_sub.ensures ∙ ap (λ m. get_or curve i 0 - m) (c.misses.ensures ∙ ap (misses_at head) capacity)
    ∙ ap (λ m. m - misses_at head (i + 1)) (sym here) in
    c.in_ok-push.ensures.items ∙ ap (λ ms. ms ++ c.saturating_sub.result ∷ []) c.loop-index.invariant ∙ ap (λ m. all ++ m ∷ []) at
    ∙ sym (map-range_with_len_more f 0 i i (zero-add i))
