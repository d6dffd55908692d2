use Rattle.std.proofs.Common.{◌≡◌, suc, Some, position, slice_get, sym, ap, ◌∙◌, arith}
use Rattle.std.proofs.lemmas.List.Quantifiers.{position-Some}
use Rattle.clru_log.specs.Columns.{is_blank, words}
use Rattle.clru_log.proofs.ColumnLemmas.{whole_rest, words-no_blank, words-word}
use Rattle.clru_log.proofs.columns.behind_word.Goals as goal

pub returns-in-Some-clause-some : goal.returns-in-Some-clause-some
returns-in-Some-clause-some c = λ n.
    let word = c.word_from-word.result.now in let at = c.in-Some.at in
    let found : position is_blank word ≡ Some at = sym c.blank_at.ensures ∙ c.in-Some.is in
    let start = c.word_from-word.ensures.first (omega (arith, (position-Some is_blank word at 0 found).0)) in
    ap (λ ws. slice_get ws (suc n)) (sym c.word_from-word.ensures.same ∙ words-word word at start found)
    ∙ ap (λ l. slice_get (words l) n) (sym (whole_rest at word))

pub returns-in-None-clause-none : goal.returns-in-None-clause-none
returns-in-None-clause-none c = λ n.
    let word = c.word_from-word.result.now in
    ap (λ ws. slice_get ws (suc n)) (sym c.word_from-word.ensures.same)
    ∙ words-no_blank word (sym c.blank_at.ensures ∙ c.in-None.is) n
