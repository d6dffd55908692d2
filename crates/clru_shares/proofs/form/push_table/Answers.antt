use Rattle.std.proofs.Common.{◌++◌, map, ap, ◌∙◌}
use Rattle.clru_shares.specs.Forms.{rows_text}
use Rattle.clru_shares.specs.Passes.{part_of_row}
use Rattle.clru_shares.proofs.PartLemmas.{texts_laid}
use Rattle.clru_shares.proofs.form.push_table.Goals as goal

pub returns : goal.returns
returns g c =
    let table = c.args.table.now in
    texts_laid c.args.json table.by_size c.args.text.now.items (map part_of_row table.parts.items) (part_of_row table.best) (part_of_row table.equal)
    (part_of_row table.one)
    (c.in_ok-push_rows.ensures ∙ ap (λ rs. c.args.text.now.items ++ rows_text c.args.json table.by_size (map part_of_row rs)) c.deref.ensures.value)
    c.in_ok-push_row.ensures c.in_ok-push_row-2.ensures c.in_ok-push_row-3.ensures
