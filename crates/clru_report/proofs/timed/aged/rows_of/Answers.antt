use Rattle.std.proofs.Common.{◌+◌, ◌++◌, ◌∷◌, ◌<◌, [], length, map, take, refl, sym, ap, ◌∙◌, arith}
use Rattle.std.specs.Int.NonZero.{non_zero_usize_get}
use Rattle.std.proofs.lemmas.List.{get_or-map, length-map, map_more}
use Rattle.clru_report.proofs.RowLemmas.{plain_more}
use Rattle.clru_report.proofs.timed.aged.rows_of.Goals as goal

pub loop-index-preserved : goal.loop-index-preserved
loop-index-preserved g c m are =
    let i = c.loop-index.index in let cs = c.args.capacities.now in let k = c.index-capacities-index.result in
    let lt = c.loop-index-test.true in let ns = map non_zero_usize_get cs in
    let at = ap non_zero_usize_get c.index-capacities-index.is in
    let more = map_more non_zero_usize_get cs i k lt ∙ ap (λ n. map non_zero_usize_get (take i cs) ++ n ∷ []) (sym at) in
    let within : i < length ns = omega (arith, lt, length-map cs non_zero_usize_get) in
    plain_more m (map non_zero_usize_get (take i cs)) (map non_zero_usize_get (take (i + 1) cs)) c.loop-index.rows.items
    c.push.new.self.items _ (c.loop-index.invariant m are) c.in_ok-push.ensures.items more (
      c.number_at.ensures ∙ are i within ∙ ap m (get_or-map non_zero_usize_get cs i k 0 lt ∙ sym at),
      refl,
      refl,
    )
