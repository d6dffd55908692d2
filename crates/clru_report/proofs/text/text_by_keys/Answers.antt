use Rattle.std.proofs.Common.{◌∙◌, string_bytes, sym, subst}
use Rattle.clru_text.specs.Pictures.{HasTable}
use Rattle.clru_text.proofs.ResultLemmas.{ok_map}
use Rattle.clru_report.specs.Passes.{IsTextByKeys}
use Rattle.clru_report.proofs.text.text_by_keys.Goals as goal

pub returns-in_ok-table-in-Picture : goal.returns-in_ok-table-in-Picture
returns-in_ok-table-in-Picture g c =
    ok_map c.picture_by_keys.result
    (λ text t. subst (λ f. IsTextByKeys f c.args.least c.args.options.now.floor c.args.counts c.args.knees.now c.args.rows.now (string_bytes text)) (sym c.in-Picture.is)
    (subst (λ table. HasTable table (string_bytes text)) (c.deref.ensures ∙ c.in_ok-table-in-Picture.ensures) t))
    c.picture_by_keys.ensures
