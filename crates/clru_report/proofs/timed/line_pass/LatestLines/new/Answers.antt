use Rattle.std.proofs.Common.{[], refl, sym, subst}
use Rattle.std.specs.Map.{lookup}
use Rattle.std.specs.Prelude.{bytes_eq}
use Rattle.clru_text.specs.Keys.{line_of}
use Rattle.clru_report.specs.TimedPasses.{IsLatestAt}
use Rattle.clru_report.proofs.timed.line_pass.LatestLines.new.Goals as goal

pub returns : goal.returns
returns g c = record {
  each = λ key. subst (λ held. IsLatestAt [] key (lookup (bytes_eq (line_of key)) held)) (sym c.new.ensures)
      (record { position = record { known = refl; position = tt }; timed = refl });
  counted = refl;
  limit = refl;
}
