use Rattle.std.proofs.Common.{◌-◌, ◌^◌, ◌≤◌, vec_len, take}
use Rattle.std.specs.Io.KnownBytes.{Consumes}
use Rattle.clru_text.proofs.input.read_input.Given as goal

-- the front of the buffer is what was read
abbrev pub invariant-reads : goal.invariant-reads
invariant-reads g l = (l.filled ≤ vec_len l.bytes)
    × Consumes (g.R.Read.remaining l.initial.reader) (g.R.Read.remaining l.reader) (take l.filled l.bytes.items)

-- a vector has room for less than 2 ^ 63 bytes
abbrev pub decreases-reads : goal.decreases-reads
decreases-reads g l = 2 ^ 63 - l.filled
