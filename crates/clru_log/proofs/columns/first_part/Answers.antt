use Rattle.std.proofs.Common.{◌==◌, slice_get, sym, ap, ◌∙◌}
use Rattle.clru_log.proofs.ColumnLemmas.{split-at, split-none}
use Rattle.clru_log.proofs.columns.first_part.Goals as goal

pub returns-in-Some : goal.returns-in-Some
returns-in-Some c =
    sym (ap (λ ps. slice_get ps 0) (split-at (λ b. b == 9) c.args.bytes.now c.in-Some.at (sym c.tab_at.ensures.at ∙ c.in-Some.is)))

pub returns-in-None : goal.returns-in-None
returns-in-None c = sym (ap (λ ps. slice_get ps 0) (split-none (λ b. b == 9) c.args.bytes.now (sym c.tab_at.ensures.at ∙ c.in-None.is)))
