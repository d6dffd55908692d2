use Rattle.std.proofs.Common.{◌≡◌, ℕ, Option, ◌++◌, ◌∷◌, [], map, take, take_all, sym, ap, ◌∙◌, arith}
use Rattle.std.specs.Int.NonZero.{non_zero_usize_get}
use Rattle.std.proofs.lemmas.List.{map-append, take_more}
use Rattle.clru_report.specs.Samples.{sized_numbers_of, sized_numbers_times}
use Rattle.clru_report.specs.declared.sized.floors.RowFloor.{RowFloor}
use Rattle.clru_report.proofs.sized.sample.sized_rows_times.Goals as goal

pub loop-row-preserved : goal.loop-row-preserved
loop-row-preserved g c =
    let i = c.loop-row.row-index in let rows = c.args.rows.now in let row = c.row-item.result in let totals = c.args.totals in
    let misses = c.times.result in let size = c.times-in-loop-row.result in let floor = c.floor_of_all.result in
    let here : ℕ × (ℕ × (ℕ × Option RowFloor)) = (non_zero_usize_get c.saturating_mul.result, (misses, (size, floor))) in
    let scaled = sized_numbers_times (non_zero_usize_get totals.one_in) totals.requests totals.size in
    let more = take_more rows i row c.loop-row-test.true ∙ ap (λ r. take i rows ++ r ∷ []) (sym c.row-item.is) in
    let shown = ap (map sized_numbers_of) c.in_ok-push.ensures.items ∙ map-append sized_numbers_of c.loop-row.shown.items _ in
    let numbers : here ≡ scaled row = ap (λ n. (n, (misses, (size, floor)))) c.saturating_mul.ensures
    ∙ ap (λ n. ((scaled row).0, (n, (size, floor)))) c.times.ensures
    ∙ ap (λ n. ((scaled row).0, ((scaled row).1.0, (n, floor)))) c.times-in-loop-row.ensures
    ∙ ap (λ o. ((scaled row).0, ((scaled row).1.0, ((scaled row).1.1.0, o)))) c.floor_of_all.ensures in
    shown ∙ ap (λ ns. ns ++ here ∷ []) c.loop-row.invariant ∙ ap (λ x. map scaled (take i rows) ++ x ∷ []) numbers
    ∙ sym (ap (map scaled) more ∙ map-append scaled (take i rows) (row ∷ []))

pub returns : goal.returns
returns g c =
    let i = c.loop-row.row-index in let rows = c.args.rows.now in let totals = c.args.totals in
    c.loop-row.invariant ∙ ap (map (sized_numbers_times (non_zero_usize_get totals.one_in) totals.requests totals.size))
    (take_all i rows (omega (arith, c.loop-row-test.false)))
