use Rattle.std.proofs.Common.{sym, subst, arith}
use Rattle.clru_report.specs.Report.{IsReport}
use Rattle.clru_web.proofs.parts.put_report.Goals as goal

pub returns-in-Ok-Some-clause-short : goal.returns-in-Ok-Some-clause-short
returns-in-Ok-Some-clause-short g c = λ five. (
  c.as_bytes.result.now,
  (λ log is. subst (IsReport c.args.options.now log) (sym c.as_bytes.ensures.value) (rw c.in-Ok-Some.field-0-is at c.in-Ok-Some.ensures.report log is)),
  omega (arith, c.put_whole.ensures.short five, c.put_whole.ensures.length),
)
