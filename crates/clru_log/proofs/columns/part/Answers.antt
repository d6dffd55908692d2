use Rattle.std.proofs.Common.{◌+◌, ◌-◌, slice_get, sym, ap, ◌∙◌, arith}
use Rattle.clru_log.specs.Columns.{parts}
use Rattle.clru_log.proofs.ColumnLemmas.{next_place}
use Rattle.clru_log.proofs.columns.part.Goals as goal

pub returns-in-None : goal.returns-in-None
returns-in-None c =
    let n = c.args.skipped in let i = c.parts.counter in
    sym (sym c.parts.invariant ∙ ap (slice_get (parts c.parts.rest.now)) (next_place n i (omega (arith, c.parts-test.true)))
    ∙ c.in-None.ensures.none (n - (i + 1)))

pub parts-preserved : goal.parts-preserved
parts-preserved c =
    let n = c.args.skipped in let i = c.parts.counter in
    sym (c.in-Some.ensures.some (n - (i + 1)))
    ∙ ap (slice_get (parts c.parts.rest.now)) (sym (next_place n i (omega (arith, c.parts-test.true)))) ∙ c.parts.invariant
