use Rattle.std.proofs.Common.{[], reverse, sym, ap, ◌∙◌}
use Rattle.std.proofs.lemmas.List.{reverse-reverse}
use Rattle.clru_model.specs.Requests.{misses}
use Rattle.clru_model.proofs.Distances.{hits_below, marks_below, misses-room}
use Rattle.clru_model.proofs.laws.law_distances.Goals as goal

pub returns-clause-hits : goal.returns-clause-hits
returns-clause-hits g c = hits_below g.K.PartialEq.eq

pub returns-clause-marks : goal.returns-clause-marks
returns-clause-marks g c k requests = marks_below g.K.PartialEq.eq k [] requests

pub returns-clause-beyond : goal.returns-clause-beyond
returns-clause-beyond g c k requests room =
    ap (misses g.K.PartialEq.eq k) (sym (reverse-reverse requests)) ∙ misses-room g.K.PartialEq.eq g.met.K.Eq.laws k (reverse requests) room
