use Rattle.std.proofs.Common.{◌∙◌}
use Rattle.clru_replay.proofs.ReportLemmas.{report-text}
use Rattle.clru_replay.proofs.report.make_report.Goals as goal

pub returns-in-Ok-report_text-clause-report : goal.returns-in-Ok-report_text-clause-report
returns-in-Ok-report_text-clause-report g c =
    let replayed = c.in-Ok-replay.replayed in
    let ran = c.in-Ok-replay.ensures in
    let capacity = c.in-Some-capacity_of in
    report-text (λ key. key.0.now) c.in-Ok.keys.items c.in-Some.requests.now c.in-Ok.ensures.keys
    c.args.input.now c.in-Some.first.now capacity.capacity.value c.deref.result.now replayed.misses c.in-Ok-report_text.text.items
    c.in-Some.ensures.line capacity.ensures.is_one capacity.ensures.value (c.deref.ensures.value ∙ ran.marks) ran.misses c.in-Ok-report_text.ensures
