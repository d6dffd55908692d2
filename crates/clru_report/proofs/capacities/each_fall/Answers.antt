use Rattle.std.proofs.Common.{ℕ, ◌+◌, ◌++◌, [], ◌∷◌, map, sym, ap, ◌∙◌, arith}
use Rattle.std.proofs.lemmas.List.{append-nil}
use Rattle.std.specs.Int.NonZero.{non_zero_usize_get}
use Rattle.clru_curve.specs.Curves.{misses_at}
use Rattle.clru_report.specs.Capacities.{is_fall}
use Rattle.clru_report.proofs.CapacityLemmas.{passing, passing_one, passing_none}
use Rattle.std.specs.List.{filter, range_with_len}
use Rattle.clru_report.proofs.capacities.each_fall.Goals as goal
use Rattle.clru_report.proofs.capacities.each_fall.Goals.{then-falls_at+in_ok-push_capacity, else-falls_at}

pub loop-index-preserved : goal.loop-index-preserved
loop-index-preserved g c =
    let p = is_fall (misses_at c.args.curve.now) in let i = c.loop-index.index in let next = λ (k : ℕ). k + 1 in
    elim c.if-falls_at.branch [
      | then-falls_at+in_ok-push_capacity w ↦ ap (λ v. map non_zero_usize_get v.items) w.chosen-is ∙ w.in_ok-push_capacity.ensures
          ∙ ap (λ ks. ks ++ (i + 1) ∷ []) c.loop-index.invariant
          ∙ sym (passing_one p next i (sym c.falls_at.ensures ∙ w.if-falls_at.true))
      | else-falls_at w ↦ ap (λ v. map non_zero_usize_get v.items) w.chosen-is ∙ c.loop-index.invariant
          ∙ sym (passing_none p next i (sym c.falls_at.ensures ∙ w.if-falls_at.false) ∙ append-nil (passing p next i))
    ]

pub returns : goal.returns
returns g c =
    let p = is_fall (misses_at c.args.curve.now) in
    c.loop-index.invariant ∙ ap (λ n. filter p (map (λ k. k + 1) (range_with_len 0 n))) (omega (arith, c.loop-index-test.false))
