use Rattle.std.proofs.Common.{sym, ◌∙◌, subst}
use Rattle.clru_text.proofs.ResultLemmas.{ok_map}
use Rattle.clru_shares.specs.Forms.{HasTable, IsTextOf}
use Rattle.clru_shares.specs.Passes.{parts_of_table}
use Rattle.clru_shares.proofs.form.text_of.Goals as goal

pub returns-in_ok-csv-in-Picture : goal.returns-in_ok-csv-in-Picture
returns-in_ok-csv-in-Picture g c =
    let table = c.args.table.now in
    ok_map c.picture_of.result (λ text has. subst (λ f. IsTextOf f table.by_size (parts_of_table table) text.items) (sym c.in-Picture.is)
    (subst (λ csv. HasTable csv text.items) (c.deref.ensures.value ∙ c.in_ok-csv-in-Picture.ensures) has)) c.picture_of.ensures
