use Rattle.std.proofs.Common.{◌≡◌, ◌-◌, slice_get}
use Rattle.clru_log.specs.Columns.{parts}
use Rattle.clru_log.proofs.columns.part.Given as goal

-- the part is one of the rest, so many parts on
abbrev pub invariant-parts : goal.invariant-parts
invariant-parts l = slice_get (parts l.rest) (l.skipped - l.counter) ≡ slice_get (parts l.fn.line) l.fn.skipped
