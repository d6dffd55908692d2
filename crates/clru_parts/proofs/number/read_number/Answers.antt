use Rattle.std.proofs.Common.{◌≡◌, ◌∙◌, Some, length}
use Rattle.std.specs.Prelude.{decimal}
use Rattle.std.proofs.lemmas.Option.{same_Some}
use Rattle.clru_parts.proofs.NumberLemmas.{line_at, line_read, line_whole}
use Rattle.clru_parts.proofs.number.read_number.Goals as goal

pub returns-in_default-clause-whole : goal.returns-in_default-clause-whole
returns-in_default-clause-whole c = λ number rest small is.
    let found : c.newline_at.result ≡ Some (length (decimal number)) =
    c.newline_at.ensures.place ∙ line_at c.args.bytes.now number rest small is in cc

pub returns-in_default-number_of-clause-whole : goal.returns-in_default-number_of-clause-whole
returns-in_default-number_of-clause-whole c = λ number rest small is.
    let line = line_whole c.args.bytes.now number rest small is c.in-Some.at c.in-Some.ensures.place in
    let named : c.number_of.result ≡ Some number = c.number_of.ensures.all number small line.0 in cc

pub returns-clause-read : goal.returns-clause-read
returns-clause-read c =
    line_read c.args.bytes.now c.in-Some.at c.in-Some-number_of.number c.in-Some.ensures.place c.in-Some-number_of.ensures.named

pub returns-clause-whole : goal.returns-clause-whole
returns-clause-whole c = λ number rest small is.
    let line = line_whole c.args.bytes.now number rest small is c.in-Some.at c.in-Some.ensures.place in
    (same_Some _ _ (c.in-Some-number_of.ensures.all number small line.0), line.1)
