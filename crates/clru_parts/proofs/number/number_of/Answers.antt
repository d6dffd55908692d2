use Rattle.std.proofs.Common.{◌≡◌, ◌∙◌, false, ap, sym, arith}
use Rattle.std.proofs.lemmas.Option.{same_Some}
use Rattle.clru_text.specs.Lines.{digits_named}
use Rattle.clru_parts.specs.Files.{has_leading_zero}
use Rattle.clru_parts.proofs.NumberLemmas.{decimal-leading, decimal-named, word-is}
use Rattle.clru_parts.proofs.number.number_of.Goals as goal

pub returns-then-has_leading_zero-clause-all : goal.returns-then-has_leading_zero-clause-all
returns-then-has_leading_zero-clause-all c = λ number small is.
    let no : has_leading_zero c.args.word.now ≡ false = ap has_leading_zero is ∙ decimal-leading number small in cc

pub returns-in-None-clause-all : goal.returns-in-None-clause-all
returns-in-None-clause-all c = λ number small is. c.in-None.ensures.value ∙ ap digits_named is ∙ decimal-named number small

pub returns-in-Some-clause-all : goal.returns-in-Some-clause-all
returns-in-Some-clause-all c = λ number small is.
    let same = same_Some _ _ (c.in-Some.ensures.value ∙ ap digits_named is ∙ decimal-named number small) in absurd (omega arith)

pub returns-in-Some-2-clause-named : goal.returns-in-Some-2-clause-named
returns-in-Some-2-clause-named c =
    let lead : has_leading_zero c.args.word.now ≡ false = sym c.has_leading_zero.ensures ∙ c.if-has_leading_zero.false in
    word-is c.args.word.now c.in-Some.number c.in-Some.ensures.value (omega arith) lead

pub returns-in-Some-2-clause-all : goal.returns-in-Some-2-clause-all
returns-in-Some-2-clause-all c = λ number small is. c.in-Some.ensures.value ∙ ap digits_named is ∙ decimal-named number small
