-- What a cache of stamped texts keeps. Public clauses cite it.
use Rattle.std.specs.Prelude.{◌≡◌, ℕ, ◌+◌, ◌%◌, ◌^◌}
use Rattle.clru_uses.specs.declared.stamps.Stamped.{Stamped}

-- the stamp of an entry is that of its page and its text
abbrev pub HasTrueStamp : ℕ × Stamped → Type 0
HasTrueStamp e = e.1.stamp ≡ (e.0 + e.1.text) % 2 ^ 64
