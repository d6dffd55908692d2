use Rattle.std.proofs.Common.{◌≡◌, ◌++◌, drop, map}
use Rattle.clru_shares.specs.Forms.{rows_text}
use Rattle.clru_shares.specs.Passes.{part_of_row}
use Rattle.clru_shares.proofs.form.push_rows.Given as goal

-- the text so far, and the rows that are left
abbrev pub invariant-loop-row : goal.invariant-loop-row
invariant-loop-row g l =
    l.text.items ++ rows_text l.json l.by_size (map part_of_row (drop l.row-index l.rows))
    ≡ l.fn.text.items ++ rows_text l.json l.by_size (map part_of_row l.rows)
