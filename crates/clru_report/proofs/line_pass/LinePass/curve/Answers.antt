use Rattle.std.proofs.Common.{reverse, ap, ◌∙◌, subst}
use Rattle.clru_curve.specs.Curves.{HasMissesOf}
use Rattle.clru_curve.specs.Seen.{timeless}
use Rattle.clru_curve.proofs.Timeless.{keys_timeless, none_late}
use Rattle.clru_model.specs.Requests.{distinct}
use Rattle.clru_text.specs.Keys.{same_line}
use Rattle.clru_text.proofs.ResultLemmas.{ok_map}
use Rattle.clru_report.proofs.line_pass.LinePass.curve.Goals as goal

pub returns-clause-misses : goal.returns-clause-misses
returns-clause-misses g c past is =
    ok_map c.curve.result (λ curve has. subst (λ ks. HasMissesOf same_line (reverse ks) curve) (keys_timeless past) has)
    (c.curve.ensures.timeless 0 (timeless past) (none_late past) is.taken)

pub returns-clause-distinct : goal.returns-clause-distinct
returns-clause-distinct g c past is =
    ok_map c.curve.result (λ curve as_many. as_many ∙ ap (distinct same_line) (keys_timeless past)) (c.curve.ensures.distinct 0 (timeless past) is.taken)
