use Rattle.std.proofs.Common.{subst}
use Rattle.clru_text.specs.Lines.{lines_of}
use Rattle.clru_text.specs.Samples.{kept_of}
use Rattle.clru_text.proofs.Samples.{all_kept}
use Rattle.clru_report.specs.Passes.{IsFloorFor, IsForeseenFor, wants_floor, wants_least}
use Rattle.clru_report.proofs.report.report_of_all.Goals as goal

pub returns-in-Ok : goal.returns-in-Ok
returns-in-Ok g c =
    let options = c.args.options.now in let read = c.in_ok-curve.ensures in let lines = lines_of read.0 in let whole = all_kept lines in
    let foreseen = subst (λ ls. IsForeseenFor g.row.A.Denot (wants_least options) ls c.in_ok-curve.foresight) whole
    (subst (λ b. IsForeseenFor g.row.A.Denot b (kept_of 1 lines) c.in_ok-curve.foresight) c.asks_for_least-least.ensures read.3.1) in
    let floored = subst (λ ls. IsFloorFor (wants_floor options) ls c.in_ok-curve.floor) whole
    (subst (λ b. IsFloorFor b (kept_of 1 lines) c.in_ok-curve.floor) c.asks_for_floor-floored.ensures read.3.2) in
    (read.0, read.1, read.2, c.in-Ok.ensures read.0 read.3.0 foreseen floored)
