use Rattle.std.proofs.Common.{◌≡◌, ◌≤◌, ◌+◌, true, [], ◌∷◌, ◌++◌, get_or, length, map, take, take_all, sym, ap, subst, ◌∙◌, arith}
use Rattle.std.proofs.lemmas.List.{get_or-map, length-map, take-map}
use Rattle.std.specs.Int.NonZero.{non_zero_usize_get}
use Rattle.std.specs.List.{filter}
use Rattle.clru_curve.specs.SizedCurves.{misses_within}
use Rattle.clru_report.specs.Capacities.{falls_from}
use Rattle.clru_report.specs.SizedAfterPasses.{missing_left}
use Rattle.clru_report.proofs.LeastBehind.{enough, enough_left, first_fall, found_in}
use Rattle.clru_report.proofs.sized.ratio.least_behind.Goals as goal

pub returns-then-is_enough : goal.returns-then-is_enough
returns-then-is_enough g c =
    let curve = c.args.curve.now in let head = c.args.head.now in let r = c.args.ratio.number in let whole = c.args.whole in
    let bytes = c.args.bytes in let stays = c.requires.stays in
    let few : length curve.steps ≤ curve.requests = subst (λ ss. length ss ≤ curve.requests) c.as_slice.ensures.steps c.as_slice.ensures.few in
    let p = enough curve head few stays r whole bytes in
    let items = c.deref-capacity-items.result.now in let i = c.loop-capacity.capacity-index in let x = c.capacity-item.result in
    let n = non_zero_usize_get x in let xs = map non_zero_usize_get items in
    let all : xs ≡ falls_from (misses_within curve) (1 + curve.greatest_weight) curve.distinct_size =
    ap (map non_zero_usize_get) c.deref-capacity-items.ensures.value ∙ c.in_ok-each.ensures in
    let at : get_or xs i 0 ≡ n = get_or-map non_zero_usize_get items i x 0 c.loop-capacity-test.true ∙ ap non_zero_usize_get (sym c.capacity-item.is) in
    let here : p n ≡ true = enough_left curve head few stays r whole bytes n c.missing_behind-fewest.result c.missing_behind-missed.result
    (c.missing_behind-fewest.ensures ∙ ap (missing_left curve head bytes) c.distinct_size.ensures)
    (c.missing_behind-missed.ensures ∙ ap (missing_left curve head bytes) c.get.ensures.value)
    ∙ sym c.is_enough.ensures ∙ c.if-is_enough.true in
    let none : filter p (take i xs) ≡ [] = ap (filter p) (take-map non_zero_usize_get i items) ∙ c.loop-capacity.invariant.1 in
    ap (map non_zero_usize_get) (c.in_ok-push.ensures.items ∙ ap (λ cs. cs ++ x ∷ []) c.loop-capacity.invariant.0)
    ∙ ap (λ k. k ∷ []) (sym at)
    ∙ sym (found_in p xs i (omega (arith, length-map items non_zero_usize_get, c.loop-capacity-test.true)) none (ap p at ∙ here))
    ∙ ap (λ cs. take 1 (filter p cs)) all ∙ first_fall curve head few stays r whole bytes

pub returns : goal.returns
returns g c =
    let curve = c.args.curve.now in let head = c.args.head.now in let r = c.args.ratio.number in let whole = c.args.whole in
    let bytes = c.args.bytes in let stays = c.requires.stays in
    let few : length curve.steps ≤ curve.requests = subst (λ ss. length ss ≤ curve.requests) c.as_slice.ensures.steps c.as_slice.ensures.few in
    let p = enough curve head few stays r whole bytes in
    let items = c.deref-capacity-items.result.now in let i = c.loop-capacity.capacity-index in
    let all : map non_zero_usize_get items ≡ falls_from (misses_within curve) (1 + curve.greatest_weight) curve.distinct_size =
    ap (map non_zero_usize_get) c.deref-capacity-items.ensures.value ∙ c.in_ok-each.ensures in
    let none : filter p (map non_zero_usize_get items) ≡ [] =
    ap (λ ys. filter p (map non_zero_usize_get ys)) (sym (take_all i items (omega (arith, c.loop-capacity-test.false)))) ∙ c.loop-capacity.invariant.1 in
    ap (map non_zero_usize_get) c.loop-capacity.invariant.0 ∙ sym (ap (take 1) none)
    ∙ ap (λ cs. take 1 (filter p cs)) all ∙ first_fall curve head few stays r whole bytes
