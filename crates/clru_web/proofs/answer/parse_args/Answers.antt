use Rattle.std.proofs.Common.{◌≡◌, ◌∙◌, ap, map, subst, sym}
use Rattle.clru_text.specs.Arguments.{IsRefusedLine}
use Rattle.clru_text.specs.CommandLine.{read_all}
use Rattle.clru_web.specs.Answers.{reading_of, words_in}
use Rattle.clru_web.proofs.Texts.{reading_none, reading_utf8}
use Rattle.clru_web.proofs.answer.parse_args.Goals as goal

pub returns-in-Err-clause-refused : goal.returns-in-Err-clause-refused
returns-in-Err-clause-refused g c = λ _. subst IsRefusedLine (sym (reading_none c.args.arguments.now c.in-Err.ensures.cases.0)) tt

pub returns-in-Ok-words_of-clause-command : goal.returns-in-Ok-words_of-clause-command
returns-in-Ok-words_of-clause-command g c =
    let is : reading_of c.args.arguments.now ≡ read_all (map (λ w. w.now) c.deref.result.now) =
    reading_utf8 c.args.arguments.now c.in-Ok.ensures.cases.1 ∙ ap (λ l. read_all (words_in l)) (sym c.in-Ok.ensures.cases.0)
    ∙ ap read_all (sym c.in-Ok-words_of.ensures) ∙ ap (λ l. read_all (map (λ w. w.now) l)) (sym c.deref.ensures.value) in
    rw is c.command_of.ensures.command

pub returns-in-Ok-words_of-clause-refused : goal.returns-in-Ok-words_of-clause-refused
returns-in-Ok-words_of-clause-refused g c =
    let is : reading_of c.args.arguments.now ≡ read_all (map (λ w. w.now) c.deref.result.now) =
    reading_utf8 c.args.arguments.now c.in-Ok.ensures.cases.1 ∙ ap (λ l. read_all (words_in l)) (sym c.in-Ok.ensures.cases.0)
    ∙ ap read_all (sym c.in-Ok-words_of.ensures) ∙ ap (λ l. read_all (map (λ w. w.now) l)) (sym c.deref.ensures.value) in
    rw is c.command_of.ensures.refused
