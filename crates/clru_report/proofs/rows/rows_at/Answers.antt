use Rattle.std.proofs.Common.{◌+◌, ◌++◌, ◌∷◌, [], map, take, sym, ap, ◌∙◌, subst, take_all, arith}
use Rattle.std.specs.Int.NonZero.{non_zero_usize_get}
use Rattle.std.proofs.lemmas.List.{map-append, take_more}
use Rattle.clru_curve.specs.Curves.{misses_at}
use Rattle.clru_report.specs.PlainRows.{ArePlainRows}
use Rattle.clru_report.specs.Tables.{capacity_of_row}
use Rattle.clru_report.proofs.RowLemmas.{plain_more}
use Rattle.clru_report.proofs.rows.rows_at.Goals as goal

pub loop-capacity-preserved : goal.loop-capacity-preserved
loop-capacity-preserved g c m has =
    let i = c.loop-capacity.capacity-index in let cs = c.args.capacities.now in let row = c.row_at.result in
    let more = ap (map non_zero_usize_get) (take_more cs i c.capacity-item.result (omega (arith, c.loop-capacity-test.true))
    ∙ ap (λ k. take i cs ++ k ∷ []) (sym c.capacity-item.is)) ∙ map-append non_zero_usize_get (take i cs) (c.capacity-item.result ∷ [])
    ∙ ap (λ k. map non_zero_usize_get (take i cs) ++ k ∷ []) (sym c.row_at.ensures.capacity) in
    plain_more m (map non_zero_usize_get (take i cs)) (map non_zero_usize_get (take (i + 1) cs)) c.loop-capacity.rows.items
    c.push.new.self.items row (c.loop-capacity.invariant m has) c.in_ok-push.ensures.items more (
      c.row_at.ensures.misses ∙ ap (misses_at c.args.curve.now) (sym c.row_at.ensures.capacity)
          ∙ has (capacity_of_row row) c.row_at.ensures.positive,
      c.row_at.ensures.least,
      c.row_at.ensures.floor,
    )

pub returns : goal.returns
returns g c m has =
    let i = c.loop-capacity.capacity-index in let cs = c.args.capacities.now in
    subst (λ ks. ArePlainRows m (map non_zero_usize_get ks) c.loop-capacity.rows.items)
    (take_all i cs (omega (arith, c.loop-capacity-test.false))) (c.loop-capacity.invariant m has)
