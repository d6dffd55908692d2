use Rattle.std.proofs.Common.{◌≡◌, take}
use Rattle.clru_text.specs.Samples.{fnv}
use Rattle.clru_parts.proofs.checksum.checksum_of.Given as goal

abbrev pub invariant-loop-byte : goal.invariant-loop-byte
invariant-loop-byte l = l.hash ≡ fnv (take l.byte-index l.bytes)
