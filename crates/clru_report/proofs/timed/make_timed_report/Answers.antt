use Rattle.std.proofs.Common.{string_bytes, sym, subst}
use Rattle.clru_text.specs.Lines.{lines_of}
use Rattle.clru_text.proofs.ResultLemmas.{ok_map}
use Rattle.clru_report.specs.Timed.{IsTimedReportIn}
use Rattle.clru_report.proofs.timed.make_timed_report.Goals as goal

pub returns-in-None-clause-report : goal.returns-in-None-clause-report
returns-in-None-clause-report g c =
    ok_map c.idle_report.result
    (λ text t. let read = t in (
      read.0,
      read.1,
      read.2,
      subst (λ age. IsTimedReportIn age c.args.limits c.args.options.now read.0 (lines_of read.0) (string_bytes text)) (sym c.in-None.is) read.3,
    )) c.idle_report.ensures.report

pub returns-in-Some-clause-report : goal.returns-in-Some-clause-report
returns-in-Some-clause-report g c =
    ok_map c.aged_report.result
    (λ text t. let read = t in (
      read.0,
      read.1,
      read.2,
      subst (λ age. IsTimedReportIn age c.args.limits c.args.options.now read.0 (lines_of read.0) (string_bytes text)) (sym c.in-Some.is) read.3,
    )) c.aged_report.ensures.report
