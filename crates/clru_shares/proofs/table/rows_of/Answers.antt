use Rattle.std.proofs.Common.{◌++◌, [], ◌∷◌, ◌<◌, length, map, min, take, sym, ap, ◌∙◌, arith}
use Rattle.std.proofs.lemmas.List.{map-append}
use Rattle.clru_shares.specs.Passes.{part_of_row, parts_of_shares}
use Rattle.clru_shares.proofs.PartLemmas.{next_parts, parts_all}
use Rattle.clru_shares.proofs.table.rows_of.Goals as goal

pub loop-index-preserved : goal.loop-index-preserved
loop-index-preserved g c =
    let shares = c.args.shares.now in let cs = c.args.capacities.now in let i = c.loop-index.index in
    let low : i < min (length shares) (length cs) = omega (arith, c.loop-index-test.true, c.min-count.ensures) in
    let made = c.loop-index.made.items in let row = c.in_ok-row_of.field-0 in
    ap (map part_of_row) c.in_ok-push.ensures.items ∙ map-append part_of_row made (row ∷ [])
    ∙ ap (λ ps. ps ++ part_of_row row ∷ []) c.loop-index.invariant
    ∙ ap (λ p. parts_of_shares (take i shares) (take i cs) ++ p ∷ []) c.in_ok-row_of.ensures
    ∙ sym (next_parts shares cs i c.index-shares-index.result (omega (arith, low)) (omega (arith, low)) c.index-shares-index.is)

pub returns : goal.returns
returns g c =
    let shares = c.args.shares.now in let cs = c.args.capacities.now in
    c.loop-index.invariant ∙ parts_all shares cs c.loop-index.index (omega (arith, c.loop-index-test.false, c.min-count.ensures))
