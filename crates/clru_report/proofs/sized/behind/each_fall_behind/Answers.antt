use Rattle.std.proofs.Common.{◌≡◌, ◌+◌, ◌-◌, nat_lt, ◌++◌, ◌∷◌, [], map, cond, take, take_all, sym, ap, ◌∙◌, arith}
use Rattle.std.proofs.lemmas.List.{append-nil, map-append, take_more}
use Rattle.std.proofs.lemmas.List.Elements.{filter-append}
use Rattle.std.specs.Prelude.{◌==◌, ◌||◌}
use Rattle.std.specs.Int.NonZero.{non_zero_usize_get}
use Rattle.std.specs.List.{filter}
use Rattle.clru_curve.specs.SizedCurves.{misses_within}
use Rattle.clru_report.specs.SizedAfterPasses.{is_fall_left}
use Rattle.clru_report.proofs.SizedAfterLemmas.{filter_within, left_falls}
use Rattle.clru_report.proofs.sized.behind.each_fall_behind.Goals as goal
use Rattle.clru_report.proofs.sized.behind.each_fall_behind.Goals.{then-falls_behind+in_ok-push, else-falls_behind}

pub loop-capacity-preserved : goal.loop-capacity-preserved
loop-capacity-preserved g c =
    let p = is_fall_left c.args.curve.now c.args.head.now in let items = c.deref-capacity-items.result.now in
    let i = c.loop-capacity.capacity-index in let x = c.capacity-item.result in let n = non_zero_usize_get x in
    let before = c.loop-capacity.invariant in let fallen = filter p (map non_zero_usize_get (take i items)) in
    let more = ap (map non_zero_usize_get) (take_more items i x c.loop-capacity-test.true
    ∙ ap (λ y. take i items ++ y ∷ []) (sym c.capacity-item.is)) ∙ map-append non_zero_usize_get (take i items) (x ∷ []) in
    let all = ap (filter p) more ∙ filter-append p (map non_zero_usize_get (take i items)) (n ∷ []) in
    let is : p n ≡ c.falls_behind.result = sym (c.falls_behind.ensures ∙ ap p c.get.ensures.value) in
    elim c.if-falls_behind.branch [
      | then-falls_behind+in_ok-push w ↦
          ap (λ v. map non_zero_usize_get v.items) w.chosen-is ∙ ap (map non_zero_usize_get) w.in_ok-push.ensures.items
          ∙ map-append non_zero_usize_get c.loop-capacity.chosen.items (x ∷ []) ∙ ap (λ ns. ns ++ n ∷ []) before
          ∙ sym (all ∙ ap (λ b. fallen ++ cond b (n ∷ []) []) (is ∙ w.if-falls_behind.true))
      | else-falls_behind w ↦
          ap (λ v. map non_zero_usize_get v.items) w.chosen-is ∙ before
          ∙ sym (all ∙ ap (λ b. fallen ++ cond b (n ∷ []) []) (is ∙ w.if-falls_behind.false) ∙ append-nil fallen)
    ]

pub returns : goal.returns
returns g c =
    let curve = c.args.curve.now in let head = c.args.head.now in let p = is_fall_left curve head in
    let items = c.deref-capacity-items.result.now in
    c.loop-capacity.invariant
    ∙ ap (λ xs. filter p (map non_zero_usize_get xs)) (take_all c.loop-capacity.capacity-index items (omega (arith, c.loop-capacity-test.false))
    ∙ c.deref-capacity-items.ensures.value)
    ∙ ap (filter p) c.in_ok-each.ensures
    ∙ filter_within p (λ k. (k == 1 + curve.greatest_weight) || nat_lt (misses_within curve k) (misses_within curve (k - 1)))
    (left_falls curve head) _
