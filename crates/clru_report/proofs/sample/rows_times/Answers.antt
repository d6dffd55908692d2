use Rattle.std.proofs.Common.{◌≡◌, ℕ, ◌++◌, ◌∷◌, [], Option, None, map, take, take_all, sym, ap, ◌∙◌, arith}
use Rattle.std.specs.Int.NonZero.{non_zero_usize_get}
use Rattle.std.proofs.lemmas.List.{map-append, take_more}
use Rattle.clru_text.specs.Samples.{times}
use Rattle.clru_report.specs.Samples.{numbers_of, numbers_times}
use Rattle.clru_report.proofs.sample.rows_times.Goals as goal

pub loop-row-preserved : goal.loop-row-preserved
loop-row-preserved g c =
    let i = c.loop-row.row-index in let rows = c.args.rows.now in let row = c.row-item.result in
    let n = non_zero_usize_get c.args.one_in in let all = c.args.requests in
    let of_all = numbers_times n all in
    let more = take_more rows i row c.loop-row-test.true ∙ ap (λ r. take i rows ++ r ∷ []) (sym c.row-item.is) in
    let shown = ap (map numbers_of) c.in_ok-push.ensures.items ∙ map-append numbers_of c.loop-row.shown.items _ in
    let capacity = times n 18446744073709551615 (non_zero_usize_get row.capacity) in
    let numbers : (non_zero_usize_get c.saturating_mul.result, (c.times.result, (None, c.times_some.result))) ≡ of_all row =
    ap (λ (k : ℕ). (k, (c.times.result, (None, c.times_some.result)))) c.saturating_mul.ensures
    ∙ ap (λ (k : ℕ). (capacity, (k, (None, c.times_some.result)))) c.times.ensures
    ∙ ap (λ (o : Option ℕ). (capacity, (times n all row.misses, (None, o)))) c.times_some.ensures in
    shown ∙ ap (λ ns. ns ++ (non_zero_usize_get c.saturating_mul.result, (c.times.result, (None, c.times_some.result))) ∷ []) c.loop-row.invariant
    ∙ ap (λ x. map of_all (take i rows) ++ x ∷ []) numbers
    ∙ sym (ap (map of_all) more ∙ map-append of_all (take i rows) (row ∷ []))

pub returns : goal.returns
returns g c =
    let i = c.loop-row.row-index in let rows = c.args.rows.now in
    c.loop-row.invariant ∙ ap (map (numbers_times (non_zero_usize_get c.args.one_in) c.args.requests))
    (take_all i rows (omega (arith, c.loop-row-test.false)))
