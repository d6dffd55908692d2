use Rattle.std.proofs.Common.{◌≡◌, ◌++◌, List, ℕ, append_assoc, string_bytes, codes, ap, ◌∙◌}
use Rattle.clru_shares.specs.Forms.{picture_head}
use Rattle.clru_shares.proofs.picture.picture_of.Goals as goal

glued : (a b c d e : List ℕ) → (((a ++ b) ++ c) ++ d) ++ e ≡ a ++ (b ++ (c ++ (d ++ e)))
glued a b c d e = append_assoc ((a ++ b) ++ c) d e ∙ append_assoc (a ++ b) c (d ++ e) ∙ append_assoc a b (c ++ (d ++ e))

pub returns : goal.returns
returns g c =
    let csv = c.args.csv.now in let drawn = string_bytes c.in_ok-drawn.drawn in let head = picture_head c.height_of.result in
    let one = c.in_ok-extend_from_slice.ensures.items ∙ ap (λ bs. bs ++ csv) c.in_ok-text.ensures in
    let two = c.in_ok-extend_from_slice-2.ensures.items ∙ ap (λ bs. bs ++ codes "</desc>\n") one in
    let three = c.in_ok-extend_from_slice-3.ensures.items ∙ ap (λ bs. bs ++ c.as_bytes.result.now) two
    ∙ ap (λ ds. ((head ++ csv) ++ codes "</desc>\n") ++ ds) c.as_bytes.ensures.value in (
      c.height_of.result,
      drawn,
      c.in_ok-extend_from_slice-4.ensures.items ∙ ap (λ bs. bs ++ codes "</svg>\n") three ∙ glued head csv (codes "</desc>\n") drawn (codes "</svg>\n"),
    )
