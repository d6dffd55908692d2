use Rattle.std.proofs.Common.{subst}
use Rattle.clru_text.specs.Lines.{lines_of}
use Rattle.clru_text.proofs.ResultLemmas.{err_map, ok_map}
use Rattle.clru_text.proofs.Samples.{all_kept}
use Rattle.clru_report.specs.OneSize.{counted_lines}
use Rattle.clru_report.specs.Passes.{AreFloorsFor}
use Rattle.clru_report.proofs.sized.sized_report_of_all.Goals as goal

pub returns-clause-report : goal.returns-clause-report
returns-clause-report g c =
    let read = c.in_ok-curve.ensures.curve in let floors = c.in_ok-curve.floors in
    let lines = counted_lines c.args.options.now.one_size (lines_of read.0) in
    ok_map c.text_by_size.result (λ text t. (read.0, read.1, read.2, t)) (c.text_by_size.ensures.report read.0 lines _ _ read.3.0
    (subst (λ b. AreFloorsFor b lines floors) c.asks_for_floor-floored.ensures
    (subst (λ ls. AreFloorsFor c.asks_for_floor-floored.result ls floors) (all_kept lines) read.3.1)))

pub returns-clause-refused : goal.returns-clause-refused
returns-clause-refused g c =
    let read = c.in_ok-curve.ensures.curve in let lines = counted_lines c.args.options.now.one_size (lines_of read.0) in
    err_map c.text_by_size.result (λ fault t of. (read.0, read.1, read.2, t of)) (c.text_by_size.ensures.refused read.0 lines _ _ read.3.0)
