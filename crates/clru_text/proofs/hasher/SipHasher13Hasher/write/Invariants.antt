use Rattle.std.proofs.Common.{◌≡◌, ◌%◌, ◌^◌, ◌<◌, fold, length, take}
use Rattle.std.specs.Hash.DefaultHasher.{write_byte}
use Rattle.clru_text.specs.SipHasher.{as_std, from_std}
use Rattle.clru_text.proofs.SipLemmas.{AreBytes}
use Rattle.clru_text.proofs.hasher.SipHasher13Hasher.write.Given as goal

abbrev pub invariant-loop-byte : goal.invariant-loop-byte
invariant-loop-byte l = l.self ≡ from_std (fold write_byte (as_std l.initial.self) (take l.byte-index l.bytes))

-- the rest, written one by one, gives what all bytes give
abbrev pub invariant-words : goal.invariant-words
invariant-words l = (fold write_byte (as_std l.self) l.rest ≡ fold write_byte (as_std l.initial.self) l.bytes)
    × (l.self.length < 2 ^ 64) × (l.self.length % 8 ≡ 0) × (l.self.tail ≡ 0) × AreBytes l.rest

abbrev pub decreases-words : goal.decreases-words
decreases-words l = length l.rest
