use Rattle.std.proofs.Common.{◌≡◌, true, false, ◌-◌, ◌^◌, ◌<◌, ℕ, List, ◌++◌, IfNone, IfSome, length}
use Rattle.std.specs.Int.NonZero.{non_zero_usize_get}
use Rattle.std.specs.Option.{option_map}
use Rattle.clru_text.specs.LinesRead.{HasReturned}
use Rattle.clru_shares.specs.Faults.{comes_of_a_line, comes_of_writing}
use Rattle.clru_shares.specs.Passes.{HasTakenLines}
use Rattle.clru_shares.specs.Refusals.{IsSaidOfLines, IsShownOf}
use Rattle.clru_shares.proofs.reading.read_classes.Given as goal

-- the lines so far were taken, or have a fault whatever follows
abbrev pub invariant-lines : goal.invariant-lines
invariant-lines g l = (lines : List (List ℕ))
    × HasReturned (g.R.Read.remaining l.initial.reader) (g.R.Read.remaining l.reader) l.buffer lines
    × (l.number ≡ length lines) × (l.number < 2 ^ 64)
    × IfNone l.refused (HasTakenLines l.sizes l.idle (option_map non_zero_usize_get l.sample) lines l.passes)
    × IfSome l.refused (λ fault. (comes_of_writing fault ≡ false)
    × (comes_of_a_line fault ≡ true → (rest : List (List ℕ)) → IsSaidOfLines l.idle l.sizes fault (lines ++ rest))
    × ((rest : List (List ℕ)) → IsShownOf fault (lines ++ rest) l.beginning.items))

abbrev pub decreases-lines : goal.decreases-lines
decreases-lines g l = 2 ^ 64 - l.number
