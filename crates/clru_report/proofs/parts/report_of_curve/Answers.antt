use Rattle.std.proofs.Common.{◌≡◌, true, sym, ◌∙◌, string_bytes, subst}
use Rattle.clru_report.specs.Parts.{IsCurveOfLog, needs_only_curve}
use Rattle.clru_report.proofs.CurveReports.{curve_kept, no_floor, no_least, of_curve}
use Rattle.clru_report.proofs.parts.report_of_curve.Goals as goal

pub returns-clause-report : goal.returns-clause-report
returns-clause-report g c log has =
    let options = c.args.options.now in let only : needs_only_curve options ≡ true = sym c.needs_only_curve.ensures ∙ c.if-not-needs_only_curve.false in
    let curve = curve_kept log c.in-Ok.curve c.args.requests c.args.bytes
    (subst (IsCurveOfLog log c.args.requests c.args.bytes) (sym c.in-Ok.ensures.curve) has) in
    of_curve options only log (string_bytes c.in_ok-text.text) (c.in_ok-text.ensures log curve (no_least options only) (no_floor options only))
