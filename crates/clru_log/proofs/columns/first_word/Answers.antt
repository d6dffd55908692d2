use Rattle.std.proofs.Common.{◌≡◌, Some, position, slice_get, sym, ap, ◌∙◌, arith}
use Rattle.std.proofs.lemmas.List.Quantifiers.{position-Some}
use Rattle.clru_log.specs.Columns.{is_blank}
use Rattle.clru_log.proofs.ColumnLemmas.{words-last, words-word}
use Rattle.clru_log.proofs.columns.first_word.Goals as goal

pub returns-in-Some : goal.returns-in-Some
returns-in-Some c =
    let bytes = c.args.bytes.now in let at = c.in-Some.at in
    let found : position is_blank bytes ≡ Some at = sym c.blank_at.ensures ∙ c.in-Some.is in
    let start = c.requires (omega (arith, (position-Some is_blank bytes at 0 found).0)) in
    sym (ap (λ ws. slice_get ws 0) (words-word bytes at start found))

pub returns-in-None : goal.returns-in-None
returns-in-None c =
    sym (ap (λ ws. slice_get ws 0) (words-last c.args.bytes.now (omega (arith, c.if-len-eq0.false)) (sym c.blank_at.ensures ∙ c.in-None.is)))
