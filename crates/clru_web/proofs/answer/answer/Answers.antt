-- The text of `--help` and `--version`, and of a report.
use Rattle.std.proofs.Common.{◌∙◌, arith, inr}
use Rattle.clru_web.specs.Answers.{reading_of}
use Rattle.clru_web.proofs.Texts.{help_text, report_text, version_text}
use Rattle.clru_web.proofs.answer.answer.Goals as goal

pub returns-in-Ok-Help-clause-answer : goal.returns-in-Ok-Help-clause-answer
returns-in-Ok-Help-clause-answer g c = λ ok. help_text _ (reading_of c.args.arguments.now) c.args.log.now _
    (rw c.in-Ok-Help.field-0-is at c.in-Ok-Help.ensures.command) (c.put_whole.ensures.whole ok ∙ c.as_bytes.ensures.value)

pub returns-in-Ok-Help-clause-short : goal.returns-in-Ok-Help-clause-short
returns-in-Ok-Help-clause-short g c = λ five. (
  c.as_bytes.result.now,
  help_text _ (reading_of c.args.arguments.now) c.args.log.now c.as_bytes.result.now
      (rw c.in-Ok-Help.field-0-is at c.in-Ok-Help.ensures.command) c.as_bytes.ensures.value,
  omega (arith, c.put_whole.ensures.short five, c.put_whole.ensures.length),
)

pub returns-in-Ok-Version-clause-answer : goal.returns-in-Ok-Version-clause-answer
returns-in-Ok-Version-clause-answer g c = λ ok. version_text _ (reading_of c.args.arguments.now) c.args.log.now _
    (rw c.in-Ok-Version.field-0-is at c.in-Ok-Version.ensures.command) (c.put_whole-in-Ok-Version.ensures.whole ok ∙ c.as_bytes-in-Ok-Version.ensures.value)

pub returns-in-Ok-Version-clause-short : goal.returns-in-Ok-Version-clause-short
returns-in-Ok-Version-clause-short g c = λ five. (
  c.as_bytes-in-Ok-Version.result.now,
  version_text _ (reading_of c.args.arguments.now) c.args.log.now c.as_bytes-in-Ok-Version.result.now
      (rw c.in-Ok-Version.field-0-is at c.in-Ok-Version.ensures.command) c.as_bytes-in-Ok-Version.ensures.value,
  omega (arith, c.put_whole-in-Ok-Version.ensures.short five, c.put_whole-in-Ok-Version.ensures.length),
)

pub returns-in-Ok-Report-clause-answer : goal.returns-in-Ok-Report-clause-answer
returns-in-Ok-Report-clause-answer g c = λ ok. report_text c.in-Ok-Report.options (reading_of c.args.arguments.now) c.args.log.now _
    (rw c.in-Ok-Report.field-0-is at c.in-Ok-Report.ensures.command) (c.run_report.ensures.report ok)

pub returns-in-Ok-Report-clause-wrong : goal.returns-in-Ok-Report-clause-wrong
returns-in-Ok-Report-clause-wrong g c = λ two. inr (c.in-Ok-Report.options, (rw c.in-Ok-Report.field-0-is at c.in-Ok-Report.ensures.command), c.run_report.ensures.small two)

pub returns-in-Ok-Report-clause-short : goal.returns-in-Ok-Report-clause-short
returns-in-Ok-Report-clause-short g c = λ five. let short = c.run_report.ensures.short five in (
  short.0,
  report_text c.in-Ok-Report.options (reading_of c.args.arguments.now) c.args.log.now short.0 (rw c.in-Ok-Report.field-0-is at c.in-Ok-Report.ensures.command) short.1,
  short.2,
)

pub returns-in-Ok-Report-clause-refused : goal.returns-in-Ok-Report-clause-refused
returns-in-Ok-Report-clause-refused g c = λ six. (c.in-Ok-Report.options, (rw c.in-Ok-Report.field-0-is at c.in-Ok-Report.ensures.command), c.run_report.ensures.refused six)
