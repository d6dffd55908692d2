use Rattle.std.proofs.Common.{◌≡◌, ◌-◌, ◌^◌, ◌<◌, ℕ, List, ◌++◌, IfErr, OnOk, length}
use Rattle.clru_text.specs.LinesRead.{HasReturned}
use Rattle.clru_text.proofs.reading.read_lines.Given as goal

-- the lines so far were taken, or are refused whatever follows
abbrev pub invariant-lines : goal.invariant-lines
invariant-lines g l = (lines : List (List ℕ))
    × HasReturned (g.R.Read.remaining l.initial.reader) (g.R.Read.remaining l.reader) l.buffer lines
    × (l.number ≡ length lines) × (l.number < 2 ^ 64)
    × OnOk l.taken (g.T.TakesLines.since l.initial.taker lines l.taker)
    × IfErr l.taken (λ reason. (rest : List (List ℕ)) → g.T.TakesLines.refused l.initial.taker (lines ++ rest) reason l.taker)

abbrev pub decreases-lines : goal.decreases-lines
decreases-lines g l = 2 ^ 64 - l.number
