use Rattle.std.proofs.Common.{◌≡◌, ◌*◌, ◌%◌, ◌^◌, take, fold}
use lib.Bits.{bit_xor}
use Rattle.clru_uses.proofs.hasher.FnvHasher.write.Given as goal

abbrev pub invariant-loop-byte : goal.invariant-loop-byte
invariant-loop-byte l = l.self.0 ≡ fold (λ s b. (bit_xor s b * 1099511628211) % 2 ^ 64) l.initial.self.0 (take l.byte-index l.bytes)
