use Rattle.std.proofs.Common.{[], refl, sym, subst}
use Rattle.std.specs.Map.{lookup}
use Rattle.std.specs.Prelude.{bytes_eq}
use Rattle.clru_model.specs.Requests.{IsLatestOf}
use Rattle.clru_report.specs.Passes.{weight_of_key}
use Rattle.clru_report.proofs.sized.line_pass.SizedLinePass.new.Goals as goal

pub returns : goal.returns
returns g c = record {
  noted = λ line. subst (λ held. IsLatestOf bytes_eq [] line (lookup (bytes_eq line) held)) (sym c.new.ensures)
      (record { known = refl; position = tt });
  taken = c.new-2.ensures weight_of_key 0;
  counted = refl;
}
