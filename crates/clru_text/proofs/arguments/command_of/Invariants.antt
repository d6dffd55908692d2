use Rattle.std.proofs.Common.{◌≡◌, map, drop}
use Rattle.clru_text.specs.Arguments.{asked_by}
use Rattle.clru_text.specs.CommandLine.{read_all, read_words}
use Rattle.clru_text.proofs.arguments.command_of.Given as goal

-- the words that are left lead where all lead
abbrev pub invariant-loop-word : goal.invariant-loop-word
invariant-loop-word g l =
    let words = map g.S.AsStr.text l.words in
    read_all words ≡ read_words (drop l.word-index words) l.next (asked_by l.draft)
