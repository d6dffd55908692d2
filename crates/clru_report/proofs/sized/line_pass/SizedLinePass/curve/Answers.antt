use Rattle.clru_text.proofs.ResultLemmas.{ok_map}
use Rattle.clru_curve.specs.Seen.{timeless}
use Rattle.clru_report.specs.Passes.{weight_of_key}
use Rattle.clru_curve.proofs.Timeless.{none_late}
use Rattle.clru_report.proofs.SizedLinePasses.{curve_of_keys, same_key_weights}
use Rattle.clru_report.proofs.sized.line_pass.SizedLinePass.curve.Goals as goal

pub returns : goal.returns
returns g c past is =
    ok_map c.curve.result (curve_of_keys past)
    (c.curve.ensures.timeless weight_of_key 0 (timeless past) same_key_weights (none_late past) is.taken)
