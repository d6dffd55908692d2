use Rattle.std.proofs.Common.{◌≡◌, ◌++◌, ℕ, List, drop}
use Rattle.clru_log.specs.Columns.{columns_of}
use Rattle.clru_log.specs.Cuts.{key_behind, key_of}
use Rattle.clru_log.proofs.cut.append_key.Given as goal

-- a text was appended, and with the columns that are left it is the key
abbrev pub invariant-columns : goal.invariant-columns
invariant-columns g l = (text : List ℕ)
    × (key_behind l.fn.wanted.no_query (columns_of l.fn.format.columns l.fn.line) text (drop l.number-index l.more)
    ≡ key_of l.fn.wanted.no_query (columns_of l.fn.format.columns l.fn.line) l.fn.format.key.items)
    × (l.plain.items ≡ l.fn.plain.items ++ text)
