use Rattle.std.proofs.Common.{◌+◌, ◌-◌, slice_get, sym, ap, ◌∙◌, arith}
use Rattle.clru_log.specs.Columns.{words}
use Rattle.clru_log.proofs.ColumnLemmas.{next_place}
use Rattle.clru_log.proofs.columns.word.Goals as goal

pub returns-in-None : goal.returns-in-None
returns-in-None c =
    let n = c.args.skipped in let i = c.words.counter in
    sym (sym c.words.invariant ∙ ap (slice_get (words c.words.rest.now)) (next_place n i (omega (arith, c.words-test.true)))
    ∙ c.in-None.ensures.none (n - (i + 1)))

pub words-preserved : goal.words-preserved
words-preserved c =
    let n = c.args.skipped in let i = c.words.counter in
    sym (c.in-Some.ensures.some (n - (i + 1)))
    ∙ ap (slice_get (words c.words.rest.now)) (sym (next_place n i (omega (arith, c.words-test.true)))) ∙ c.words.invariant
