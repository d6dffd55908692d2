use Rattle.std.proofs.Common.{◌≡◌, ◌++◌, drop, string_bytes}
use Rattle.clru_report.specs.SizedTables.{sized_rows_text, sized_table_text}
use Rattle.clru_report.proofs.sized.table.sized_table_of.Given as goal

-- the text so far, and the lines of the rows that are left
abbrev pub invariant-loop-index : goal.invariant-loop-index
invariant-loop-index g l =
    string_bytes l.text ++ sized_rows_text l.json l.shown l.requests l.size l.knees l.before (drop l.index l.rows)
    ≡ sized_table_text l.json l.floor l.requests l.size l.knees l.rows
