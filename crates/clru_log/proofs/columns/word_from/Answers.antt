use Rattle.std.proofs.Common.{position, sym, ap, ◌∙◌}
use Rattle.clru_log.specs.Columns.{words}
use Rattle.clru_log.proofs.ColumnLemmas.{other, position-drop, whole_rest, words-none, words-start}
use Rattle.clru_log.proofs.columns.word_from.Goals as goal

pub returns-in-Some-clause-same : goal.returns-in-Some-clause-same
returns-in-Some-clause-same c =
    let bytes = c.args.bytes.now in let at = c.in-Some.at in
    ap words (whole_rest at bytes) ∙ sym (words-start bytes at (sym c.other_at.ensures ∙ c.in-Some.is))

pub returns-in-Some-clause-first : goal.returns-in-Some-clause-first
returns-in-Some-clause-first c = λ some.
    let bytes = c.args.bytes.now in let at = c.in-Some.at in
    ap (position other) (whole_rest at bytes) ∙ position-drop bytes at (sym c.other_at.ensures ∙ c.in-Some.is)

pub returns-in-None-clause-same : goal.returns-in-None-clause-same
returns-in-None-clause-same c = sym (words-none c.args.bytes.now (sym c.other_at.ensures ∙ c.in-None.is))
