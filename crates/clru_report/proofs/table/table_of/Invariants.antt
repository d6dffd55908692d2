use Rattle.std.proofs.Common.{◌≡◌, ◌++◌, drop, string_bytes}
use Rattle.clru_report.specs.Tables.{rows_text, table_text}
use Rattle.clru_report.proofs.table.table_of.Given as goal

-- the text so far, and the lines of the rows that are left
abbrev pub invariant-loop-index : goal.invariant-loop-index
invariant-loop-index g l =
    string_bytes l.text ++ rows_text l.json l.shown l.requests l.knees l.before (drop l.index l.rows)
    ≡ table_text l.json l.least l.floor l.requests l.knees l.rows
