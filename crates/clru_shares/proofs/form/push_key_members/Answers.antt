use Rattle.std.proofs.Common.{◌++◌, codes, ap, ◌∙◌}
use Rattle.std.specs.Prelude.{decimal}
use Rattle.clru_text.specs.Fractions.{fraction_text}
use Rattle.clru_shares.proofs.form.push_key_members.Goals as goal

pub returns : goal.returns
returns g c =
    let text = c.args.text.now.items in let row = c.args.row.now in
    c.in_ok-extend_from_slice.ensures.items ∙ ap (λ bs. text ++ bs) (c.as_bytes.ensures.value ∙ c.in_ok-members.ensures.ok
    ∙ ap (λ m. codes ",\"capacity\":" ++ (decimal row.capacity ++ (codes ",\"misses\":" ++ (decimal row.misses
    ++ (codes ",\"miss_ratio\":" ++ fraction_text m))))) c.ratio_of-ratio.ensures)
