use Rattle.std.proofs.Common.{◌≡◌, ◌++◌, drop, map, string_bytes}
use Rattle.clru_report.specs.Columns.{behind_commas, cell_text, with_commas}
use Rattle.clru_report.proofs.columns.push_cells.Given as goal

-- the text so far, and the cells that are left
abbrev pub invariant-loop-column : goal.invariant-loop-column
invariant-loop-column g l =
    string_bytes l.text ++ behind_commas (map (cell_text l.cells) (drop l.column-index l.rest))
    ≡ string_bytes l.fn.text ++ with_commas (map (cell_text l.cells) l.columns)
