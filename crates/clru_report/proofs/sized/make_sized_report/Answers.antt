use Rattle.std.proofs.Common.{ap, string_bytes, sym, subst}
use Rattle.std.specs.Int.NonZero.{non_zero_usize_get}
use Rattle.std.specs.Option.{is_some, option_map}
use Rattle.clru_text.specs.Lines.{lines_of}
use Rattle.clru_text.proofs.CutsAlone.{rows_alone, whole_alone}
use Rattle.clru_text.proofs.ResultLemmas.{err_map, ok_map}
use Rattle.clru_report.specs.OneSize.{counted_lines}
use Rattle.clru_report.specs.Refusals.{IsRefusedBy}
use Rattle.clru_report.specs.Report.{IsReportBySizeFrom}
use Rattle.clru_report.specs.SizedAfter.{IsReportBySizeAfter}
use Rattle.clru_report.proofs.FaultLemmas.{refused_whole}
use Rattle.clru_report.proofs.sized.make_sized_report.Goals as goal

pub sized_report_after-requires : goal.sized_report_after-requires
sized_report_after-requires g c =
    let options = c.args.options.now in
    rows_alone options.least options.floor options.sample options.form (options.after_rows (ap is_some c.in-Some.is))

pub returns-in-Some-clause-report : goal.returns-in-Some-clause-report
returns-in-Some-clause-report g c =
    let options = c.args.options.now in let n = non_zero_usize_get c.in-Some.after in
    let sizes = options.after_sizes (ap is_some c.in-Some.is) in
    ok_map c.sized_report_after.result
    (λ text t. let read = t in (
      read.0,
      read.1,
      read.2,
      subst (λ a. IsReportBySizeFrom (option_map non_zero_usize_get a) options read.0 (counted_lines options.one_size (lines_of read.0)) (string_bytes text))
          (sym c.in-Some.is)
          (subst (λ b. IsReportBySizeAfter n options (counted_lines b (lines_of read.0)) (string_bytes text)) (sym sizes) read.3),
    )) c.sized_report_after.ensures.report

pub returns-in-Some-clause-refused : goal.returns-in-Some-clause-refused
returns-in-Some-clause-refused g c =
    let options = c.args.options.now in
    let whole = whole_alone options.least options.floor options.sample options.form (options.after_rows (ap is_some c.in-Some.is)) in
    let sizes = options.after_sizes (ap is_some c.in-Some.is) in
    err_map c.sized_report_after.result
    (λ fault t is. let read = t is in (
      read.0,
      read.1,
      read.2,
      subst (λ b. IsRefusedBy options.sample fault options (counted_lines b (lines_of read.0))) (sym sizes)
          (refused_whole options.sample fault options (lines_of read.0) whole read.3),
    )) c.sized_report_after.ensures.refused
