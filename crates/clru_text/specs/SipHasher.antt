-- A `SipHasher13` has the fields of std's `DefaultHasher`, so its contracts are std's. Public clauses cite it.
use Rattle.std.specs.Prelude.{ℕ, ◌+◌, ◌*◌, List, [], ◌∷◌}
use Rattle.std.specs.declared.hash.DefaultHasher.{DefaultHasher}
use Rattle.clru_text.specs.declared.hasher.SipHasher13.{SipHasher13}

-- the state of std's hasher with these fields, and back
abbrev pub as_std : SipHasher13 → DefaultHasher
as_std s = record { v0 = s.v0; v1 = s.v1; v2 = s.v2; v3 = s.v3; tail = s.tail; length = s.length }

abbrev pub from_std : DefaultHasher → SipHasher13
from_std s = record { v0 = s.v0; v1 = s.v1; v2 = s.v2; v3 = s.v3; tail = s.tail; length = s.length }

-- the number of these bytes, the first of them lowest
abbrev pub number_of : List ℕ → ℕ
number_of [] = 0
number_of (b ∷ bs) = b + 256 * number_of bs
