use Rattle.std.proofs.Common.{◌+◌, ◌++◌, ◌∷◌, ◌<◌, [], length, map, take, refl, sym, ap, subst, ◌∙◌, arith}
use Rattle.std.specs.Int.NonZero.{non_zero_usize_get}
use Rattle.std.proofs.lemmas.List.{get_or-map, length-map, map_more, take_all}
use Rattle.clru_report.specs.SizedTimed.{ArePlainSizedRows}
use Rattle.clru_report.proofs.SizedTimedForms.{plain_sized_more}
use Rattle.clru_report.proofs.timed.sized_aged.sized_rows_of.Goals as goal

pub loop-index-preserved : goal.loop-index-preserved
loop-index-preserved g c m s are missed =
    let i = c.loop-index.index in let cs = c.args.capacities.now in let k = c.index-capacities-index.result in
    let lt = c.loop-index-test.true in let ns = map non_zero_usize_get cs in
    let at = ap non_zero_usize_get c.index-capacities-index.is in
    let more = map_more non_zero_usize_get cs i k lt ∙ ap (λ n. map non_zero_usize_get (take i cs) ++ n ∷ []) (sym at) in
    let within : i < length ns = omega (arith, lt, length-map cs non_zero_usize_get) in
    let here = get_or-map non_zero_usize_get cs i k 0 lt ∙ sym at in
    plain_sized_more m s (map non_zero_usize_get (take i cs)) (map non_zero_usize_get (take (i + 1) cs)) c.loop-index.rows.items
    c.push.new.self.items _ (c.loop-index.invariant m s are missed) c.in_ok-push.ensures.items more (
      c.number_at.ensures ∙ are i within ∙ ap m here,
      c.number_at-in-loop-index.ensures ∙ missed i within ∙ ap s here,
      refl,
    )

pub returns : goal.returns
returns g c m s are missed =
    let cs = c.args.capacities.now in
    subst (λ ks. ArePlainSizedRows m s (map non_zero_usize_get ks) c.loop-index.rows.items)
    (take_all c.loop-index.index cs (omega (arith, c.loop-index-test.false))) (c.loop-index.invariant m s are missed)
