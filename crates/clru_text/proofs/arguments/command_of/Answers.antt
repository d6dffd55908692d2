use Rattle.std.proofs.Common.{◌≡◌, ◌∙◌, ap, map, rules, subst, sym}
use Rattle.clru_text.specs.Arguments.{asked_by, IsRefusedLine, reading_after}
use Rattle.clru_text.specs.CommandLine.{read_all, read_word, wrong}
use Rattle.clru_text.specs.declared.arguments.Step.TheVariants as step
use Rattle.clru_text.proofs.CommandLines.{next_word}
use Rattle.clru_text.proofs.arguments.command_of.Goals as goal

pub returns-in-Help-clause-command : goal.returns-in-Help-clause-command
returns-in-Help-clause-command g c =
    next_word g.S.AsStr.text c.args.words.now c.loop-word.word-index c.word-item.result c.as_str.result.now c.loop-word.next
    (asked_by c.loop-word.draft) (read_all (map g.S.AsStr.text c.args.words.now)) (reading_after step.Help (asked_by c.read_one.new.draft))
    c.loop-word-test.true c.word-item.is c.as_str.ensures c.loop-word.invariant
    (c.in_ok-read_one.ensures.step ∙ ap (λ s. reading_after s (asked_by c.read_one.new.draft)) c.in-Help.is)

pub returns-in-Version-clause-command : goal.returns-in-Version-clause-command
returns-in-Version-clause-command g c =
    next_word g.S.AsStr.text c.args.words.now c.loop-word.word-index c.word-item.result c.as_str.result.now c.loop-word.next
    (asked_by c.loop-word.draft) (read_all (map g.S.AsStr.text c.args.words.now)) (reading_after step.Version (asked_by c.read_one.new.draft))
    c.loop-word-test.true c.word-item.is c.as_str.ensures c.loop-word.invariant
    (c.in_ok-read_one.ensures.step ∙ ap (λ s. reading_after s (asked_by c.read_one.new.draft)) c.in-Version.is)

pub loop-word-preserved : goal.loop-word-preserved
loop-word-preserved g c =
    next_word g.S.AsStr.text c.args.words.now c.loop-word.word-index c.word-item.result c.as_str.result.now c.loop-word.next
    (asked_by c.loop-word.draft) (read_all (map g.S.AsStr.text c.args.words.now)) (reading_after (step.Next c.in-Next.value) (asked_by c.read_one.new.draft))
    c.loop-word-test.true c.word-item.is c.as_str.ensures c.loop-word.invariant
    (c.in_ok-read_one.ensures.step ∙ ap (λ s. reading_after s (asked_by c.read_one.new.draft)) c.in-Next.is)

pub returns-in_err-read_one-clause-refused : goal.returns-in_err-read_one-clause-refused
returns-in_err-read_one-clause-refused g c =
    let refused : read_word c.loop-word.next c.as_str.result.now (asked_by c.loop-word.draft) ≡ wrong
    → IsRefusedLine (read_all (map g.S.AsStr.text c.args.words.now)) =
    λ h. subst IsRefusedLine (sym (next_word g.S.AsStr.text c.args.words.now c.loop-word.word-index c.word-item.result
    c.as_str.result.now c.loop-word.next (asked_by c.loop-word.draft) (read_all (map g.S.AsStr.text c.args.words.now)) wrong
    c.loop-word-test.true c.word-item.is c.as_str.ensures c.loop-word.invariant h)) tt in
    search (rules, refused, c.in_err-read_one.ensures.refused)
