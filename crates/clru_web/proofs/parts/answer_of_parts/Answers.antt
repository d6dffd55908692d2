-- The text of `--help` and `--version`, and of a report.
use Rattle.std.proofs.Common.{◌∙◌, arith}
use Rattle.clru_web.specs.Answers.{reading_of}
use Rattle.clru_web.proofs.Texts.{help_text, report_text, version_text}
use Rattle.clru_web.proofs.parts.answer_of_parts.Goals as goal

pub returns-in-Ok-Help-clause-answer : goal.returns-in-Ok-Help-clause-answer
returns-in-Ok-Help-clause-answer g c = λ ok log is. help_text _ (reading_of c.args.arguments.now) log _
    (rw c.in-Ok-Help.field-0-is at c.in-Ok-Help.ensures.command) (c.put_whole.ensures.whole ok ∙ c.as_bytes.ensures.value)

pub returns-in-Ok-Help-clause-short : goal.returns-in-Ok-Help-clause-short
returns-in-Ok-Help-clause-short g c = λ five. (
  c.as_bytes.result.now,
  (λ log is. help_text _ (reading_of c.args.arguments.now) log c.as_bytes.result.now
      (rw c.in-Ok-Help.field-0-is at c.in-Ok-Help.ensures.command) c.as_bytes.ensures.value),
  omega (arith, c.put_whole.ensures.short five, c.put_whole.ensures.length),
)

pub returns-in-Ok-Version-clause-answer : goal.returns-in-Ok-Version-clause-answer
returns-in-Ok-Version-clause-answer g c = λ ok log is. version_text _ (reading_of c.args.arguments.now) log _
    (rw c.in-Ok-Version.field-0-is at c.in-Ok-Version.ensures.command) (c.put_whole-in-Ok-Version.ensures.whole ok ∙ c.as_bytes-in-Ok-Version.ensures.value)

pub returns-in-Ok-Version-clause-short : goal.returns-in-Ok-Version-clause-short
returns-in-Ok-Version-clause-short g c = λ five. (
  c.as_bytes-in-Ok-Version.result.now,
  (λ log is. version_text _ (reading_of c.args.arguments.now) log c.as_bytes-in-Ok-Version.result.now
      (rw c.in-Ok-Version.field-0-is at c.in-Ok-Version.ensures.command) c.as_bytes-in-Ok-Version.ensures.value),
  omega (arith, c.put_whole-in-Ok-Version.ensures.short five, c.put_whole-in-Ok-Version.ensures.length),
)

pub returns-in-Ok-Report-clause-answer : goal.returns-in-Ok-Report-clause-answer
returns-in-Ok-Report-clause-answer g c = λ ok log is. report_text c.in-Ok-Report.options (reading_of c.args.arguments.now) log _
    (rw c.in-Ok-Report.field-0-is at c.in-Ok-Report.ensures.command) (c.put_report.ensures.report ok log is)

pub returns-in-Ok-Report-clause-short : goal.returns-in-Ok-Report-clause-short
returns-in-Ok-Report-clause-short g c = λ five. let short = c.put_report.ensures.short five in (
  short.0,
  (λ log is. report_text c.in-Ok-Report.options (reading_of c.args.arguments.now) log short.0
      (rw c.in-Ok-Report.field-0-is at c.in-Ok-Report.ensures.command) (short.1 log is)),
  short.2,
)

pub returns-in-Ok-Report-clause-other : goal.returns-in-Ok-Report-clause-other
returns-in-Ok-Report-clause-other g c = λ seven.
    (c.in-Ok-Report.options, (rw c.in-Ok-Report.field-0-is at c.in-Ok-Report.ensures.command), c.put_report.ensures.other seven)
