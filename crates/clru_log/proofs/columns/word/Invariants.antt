use Rattle.std.proofs.Common.{◌≡◌, ◌-◌, slice_get}
use Rattle.clru_log.specs.Columns.{words}
use Rattle.clru_log.proofs.columns.word.Given as goal

-- the word is one of the rest, so many words on
abbrev pub invariant-words : goal.invariant-words
invariant-words l = slice_get (words l.rest) (l.skipped - l.counter) ≡ slice_get (words l.fn.line) l.fn.skipped
