use Rattle.std.proofs.Common.{◌+◌, ◌==◌, suc, slice_get, sym, ap, ◌∙◌}
use Rattle.clru_log.specs.Columns.{parts}
use Rattle.clru_log.proofs.ColumnLemmas.{split-at, split-none, whole_rest}
use Rattle.clru_log.proofs.columns.behind_part.Goals as goal

pub returns-in-Some-clause-some : goal.returns-in-Some-clause-some
returns-in-Some-clause-some c = λ n.
    let bytes = c.args.bytes.now in let at = c.in-Some.at in
    ap (λ ps. slice_get ps (suc n)) (split-at (λ b. b == 9) bytes at (sym c.tab_at.ensures.at ∙ c.in-Some.is))
    ∙ ap (λ l. slice_get (parts l) n) (sym (whole_rest (at + 1) bytes))

pub returns-in-None-clause-none : goal.returns-in-None-clause-none
returns-in-None-clause-none c = λ n.
    ap (λ ps. slice_get ps (suc n)) (split-none (λ b. b == 9) c.args.bytes.now (sym c.tab_at.ensures.at ∙ c.in-None.is))
