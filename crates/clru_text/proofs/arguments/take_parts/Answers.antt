use Rattle.std.proofs.Common.{◌∙◌, map, ap, arith}
use Rattle.std.proofs.lemmas.List.{length-map}
use Rattle.std.specs.Int.NonZero.{non_zero_usize_get}
use Rattle.clru_text.specs.Arguments.{part_of}
use Rattle.clru_text.proofs.CommandLines.{all_done, one_more}
use Rattle.clru_text.proofs.arguments.take_parts.Goals as goal

pub loop-index-preserved : goal.loop-index-preserved
loop-index-preserved g c =
    let p = part_of (non_zero_usize_get c.args.one_in) in
    let old = c.args.named.now.items in
    one_more non_zero_usize_get p (map non_zero_usize_get old) c.loop-index.named.items c.loop-index.index c.parts_of.result
    c.index.result.now (omega (arith, length-map old non_zero_usize_get, c.loop-index-test.true, c.len-index-end.ensures))
    c.loop-index.invariant (c.parts_of.ensures ∙ ap (λ k. p (non_zero_usize_get k)) c.index.ensures)

pub returns : goal.returns
returns g c =
    let old = c.args.named.now.items in
    all_done (part_of (non_zero_usize_get c.args.one_in)) (map non_zero_usize_get old)
    (map non_zero_usize_get c.loop-index.named.items) c.loop-index.index
    (omega (arith, length-map old non_zero_usize_get, c.loop-index-test.false, c.len-index-end.ensures)) c.loop-index.invariant
