use Rattle.std.proofs.Common.{◌++◌, codes, sym, ap, ◌∙◌}
use Rattle.std.specs.Prelude.{decimal}
use Rattle.clru_text.specs.Fractions.{fraction_text}
use Rattle.clru_shares.specs.Forms.{size_members}
use Rattle.clru_shares.specs.Passes.{part_of_row}
use Rattle.clru_shares.proofs.form.push_size_members.Goals as goal

pub returns : goal.returns
returns g c =
    let text = c.args.text.now.items in let row = c.args.row.now in
    c.in_ok-extend_from_slice.ensures.items ∙ ap (λ bs. text ++ bs) (c.as_bytes.ensures.value ∙ c.in_ok-members.ensures.ok
    ∙ ap (λ m. codes ",\"missed_bytes\":" ++ (decimal row.missed_size ++ (codes ",\"byte_miss_ratio\":" ++ fraction_text m))) c.ratio_of-ratio.ensures
    ∙ ap (λ b. size_members b (part_of_row row)) (sym c.if-not-by_size.false))
