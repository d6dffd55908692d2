use Rattle.std.proofs.Common.{◌++◌, string_bytes, codes, ap, ◌∙◌}
use Rattle.clru_text.proofs.ResultLemmas.{ok_map}
use Rattle.clru_text.proofs.picture.picture_of.Goals as goal

pub returns : goal.returns
returns g c =
    let drawn = string_bytes c.in_ok-drawn.drawn in
    ok_map c.format.result
    (λ text is. (drawn, is ∙ ap (λ head. head ++ (c.args.table.now ++ (codes "</desc>\n" ++ (drawn ++ codes "</svg>\n")))) c.in_ok-begin.ensures))
    c.format.ensures.ok
