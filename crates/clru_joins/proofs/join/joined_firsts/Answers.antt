use Rattle.std.proofs.Common.{◌≡◌, ◌∙◌, ◌++◌, ap}
use Rattle.std.specs.Prelude.{bytes_eq}
use Rattle.clru_model.specs.Parts.{firsts}
use Rattle.clru_text.proofs.ResultLemmas.{ok_map}
use Rattle.clru_text.specs.Lines.{lines_of}
use Rattle.clru_text.specs.Texts.{bytes_of}
use Rattle.clru_joins.proofs.JoinedTexts.{firsts_of_both}
use Rattle.clru_joins.proofs.join.joined_firsts.Goals as goal

pub returns : goal.returns
returns g c lines more requests others one_curve one_lasts two_curve two_lasts one two =
    let text : c.as_slice.result.now ≡ bytes_of (firsts bytes_eq lines) ++ bytes_of (firsts bytes_eq more) =
    c.as_slice.ensures.value ∙ c.in-Ok-extend_from_slice.ensures.items ∙ ap (λ l. l ++ c.args.two.now) (c.in-Ok.ensures.items ∙ one.first_lines)
    ∙ ap (λ l. bytes_of (firsts bytes_eq lines) ++ l) two.first_lines in
    ok_map c.firsts_of.result (λ both is. is ∙ ap bytes_of (ap (λ l. firsts bytes_eq (lines_of l)) text
    ∙ firsts_of_both lines more one.known.free two.known.free)) c.firsts_of.ensures
