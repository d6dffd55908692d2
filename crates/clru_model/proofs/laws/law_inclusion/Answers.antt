use Rattle.clru_model.proofs.Inclusion.{after_all_begins}
use Rattle.clru_model.proofs.laws.law_inclusion.Goals as goal

pub returns : goal.returns
returns g c = record {
  included = λ weight lesser greater calls more. after_all_begins g.K.PartialEq.eq weight lesser greater more calls;
}
