use Rattle.std.proofs.Common.{[], refl, sym, ap, subst}
use Rattle.std.specs.Map.{keys_of, lookup}
use Rattle.std.specs.Prelude.{bytes_eq}
use Rattle.clru_model.specs.Requests.{IsLatestOf}
use Rattle.clru_report.proofs.line_pass.LinePass.new.Goals as goal

pub returns : goal.returns
returns g c = record {
  keys = ap (λ es. keys_of es) c.new.ensures;
  noted = λ line. subst (λ held. IsLatestOf bytes_eq [] line (lookup (bytes_eq line) held)) (sym c.new.ensures)
      (record { known = refl; position = tt });
  taken = c.new-2.ensures 0;
  counted = refl;
}
